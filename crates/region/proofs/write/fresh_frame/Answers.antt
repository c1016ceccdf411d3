use Rattle.std.proofs.Common.{◌≡◌, [], ◌∷◌, ◌++◌, length, refl, ap, ◌∙◌, rules}
use Rattle.region.specs.Numbers.{spelled}
use Rattle.layout.specs.Layout.{count_size, kind_size}
use Rattle.region.specs.Writing.{zero_pad}
use Rattle.region.proofs.Pieces.{grown, frame_pieces}
use Rattle.region.proofs.write.fresh_frame.Goals as goal

pub returns : goal.returns
returns c =
    let count = spelled count_size (length c.args.args.now) in
    let kind = spelled kind_size c.args.kind in
    let head : c.append-2.new.self ≡ count ++ kind = search rules in
    grown c.append-6.ensures
    (grown c.append-5.ensures (grown c.append-4.ensures (grown c.append-3.ensures head refl) (c.as_slice.ensures.bytes ∙ c.pad_bytes-pad.ensures)) (c.as_slice-2.ensures.bytes ∙ c.pad_bytes-pad.ensures))
    (ap (λ b. b ∷ []) c.from.ensures)
    ∙ frame_pieces count kind c.args.args.now zero_pad (1 ∷ [])
