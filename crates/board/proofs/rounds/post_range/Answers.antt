use Rattle.std.proofs.Common.{◌≡◌, ◌+◌, ◌-◌, sym, ap, ◌∙◌, arith, rules}
use Rattle.model.specs.Writes.{post}
use Rattle.model.specs.Rounds.{posts}
use Rattle.model.proofs.Lists.{ran_next, ran_all, ran_at}
use Rattle.model.proofs.Rounds.{length-posts, get_or-posts}
use Rattle.board.proofs.Progress.{stops_with, granted_by}
use Rattle.board.proofs.rounds.post_range.Goals as goal

pub returns-in_err-map_err : goal.returns-in_err-map_err
returns-in_err-map_err g c =
    let first = c.args.first in
    let n = c.args.end - first in
    let line = c.loop-line.line-counter in
    stops_with g.B.Board.width (posts first n) (line - first) (post line) _ _ _ c.post.result _ (omega (arith, length-posts first n)) c.loop-line.invariant.1 (omega (arith, c.requires.1 line (omega arith))) c.post.ensures (search rules)

pub loop-line-preserved : goal.loop-line-preserved
loop-line-preserved g c =
    let first = c.args.first in
    let n = c.args.end - first in
    let line = c.loop-line.line-counter in
    let granted = granted_by g.B.Board.width (post line) _ _ _ c.post.ensures (search rules) in
    let here : first + (line - first) ≡ line = omega arith in
    let next : line - first + 1 ≡ line + 1 - first = omega arith in (
      granted.size ∙ c.loop-line.invariant.0,
      ran_at g.B.Board.width (posts first n) (line - first + 1) (line + 1 - first) _ _ next
          (ran_next g.B.Board.width (posts first n) (line - first) (post line) _ _ _ (omega (arith, length-posts first n)) (get_or-posts first n (line - first) (omega arith) ∙ ap post here) c.loop-line.invariant.1 granted),
    )

pub returns : goal.returns
returns g c =
    let n = c.args.end - c.args.first in
    let long = length-posts c.args.first n in
    (sym long, ran_all g.B.Board.width (posts c.args.first n) (c.loop-line.line-counter - c.args.first) _ _ (omega (arith, long)) c.loop-line.invariant.1)
