use Rattle.std.proofs.Common.{◌+◌, get_or, sym, ◌∙◌, arith, rules}
use Rattle.model.specs.Writes.{store}
use Rattle.model.specs.Rounds.{stores}
use Rattle.model.proofs.Lists.{ran_next, ran_all}
use Rattle.model.proofs.Rounds.{length-stores, get_or-stores}
use Rattle.board.proofs.Progress.{stops_with, granted_by}
use Rattle.board.proofs.rounds.store_bytes.Goals as goal

pub returns-in_err-map_err : goal.returns-in_err-map_err
returns-in_err-map_err g c =
    let p = c.args.at in
    let bs = c.args.bytes.now in
    let i = c.loop-i.i-counter in
    stops_with g.B.Board.width (stores p bs) i (store (p + i) (get_or bs i 0)) _ _ _ c.store.result _ (omega (arith, length-stores p bs)) c.loop-i.invariant.1 (omega arith) c.store.ensures (search rules)

pub loop-i-preserved : goal.loop-i-preserved
loop-i-preserved g c =
    let p = c.args.at in
    let bs = c.args.bytes.now in
    let i = c.loop-i.i-counter in
    let granted = granted_by g.B.Board.width (store (p + i) (get_or bs i 0)) _ _ _ c.store.ensures (search rules) in (
      granted.size ∙ c.loop-i.invariant.0,
      ran_next g.B.Board.width (stores p bs) i _ _ _ _ (omega (arith, length-stores p bs)) (get_or-stores p bs i (omega arith)) c.loop-i.invariant.1 granted,
    )

pub returns : goal.returns
returns g c =
    let long = length-stores c.args.at c.args.bytes.now in
    (sym long, ran_all g.B.Board.width (stores c.args.at c.args.bytes.now) c.loop-i.i-counter _ _ (omega (arith, long)) c.loop-i.invariant.1)
