use Rattle.std.proofs.Common.{◌≡◌, ◌+◌, ◌<◌, ◌≤◌, Some, get_or, sym, refl, ap, ◌∙◌, arith, rules}
use Rattle.model.specs.Writes.{bytes}
use Rattle.model.proofs.Places.{length-bytes}
use Rattle.layout.specs.Layout.{frame_size, marker_place}
use Rattle.layout.specs.Markers.{marker_of}
use Rattle.region.specs.Reading.{count_at, kind_at}
use Rattle.region.proofs.Heads.{passes_end, head_found}
use Rattle.region.proofs.read.head_at.Goals as goal

pub returns-in_err-ok : goal.returns-in_err-ok
returns-in_err-ok g c =
    let m = g.B.Board.meaning c.args.board.now in
    let far : m.size < c.args.spot.first + frame_size 0 = search rules in
    passes_end (bytes m) c.args.spot.below c.args.spot.first 0 _ (omega arith) (omega (arith, far, length-bytes m)) c.from_residual.ensures

pub returns-in_err-ok-2 : goal.returns-in_err-ok-2
returns-in_err-ok-2 g c =
    let m = g.B.Board.meaning c.args.board.now in
    let count : c.from-count.result ≡ count_at (bytes m) c.args.spot.first = search rules in
    let far : m.size < c.args.spot.first + frame_size c.from-count.result = search rules in
    passes_end (bytes m) c.args.spot.below c.args.spot.first c.from-count.result _ (omega (arith, count)) (omega (arith, far, length-bytes m)) c.from_residual-in_err-ok-2.ensures

pub returns : goal.returns
returns g c =
    let m = g.B.Board.meaning c.args.board.now in
    let count : c.from-count.result ≡ count_at (bytes m) c.args.spot.first = search rules in
    let kind : c.from_be_bytes-kind.result ≡ kind_at (bytes m) c.args.spot.first = search rules in
    let room : c.args.spot.first + frame_size c.from-count.result ≤ m.size = search rules in
    let marker : marker_of c.byte_at.result ≡ Some c.in_ok-marker.marker = search rules in
    head_found (bytes m) c.args.spot.below c.args.spot.first c.from-count.result c.from_be_bytes-kind.result c.byte_at.result c.in_ok-marker.marker c.in_ok-pad.pad _
    c.if-below-ge-MAX_FRAMES.false count kind (omega (arith, room, length-bytes m)) (sym c.if-not-keeps_kind_rule.ensures) (c.byte_at.ensures ∙ (ap (λ q. get_or (bytes m) q 0) c.marker_place.ensures ∙ ap (λ n. get_or (bytes m) (marker_place c.args.spot.first n) 0) count)) marker (sym c.read_pad.ensures ∙ c.in_ok-pad.was) refl refl refl refl refl refl
