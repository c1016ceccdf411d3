use Rattle.std.proofs.Common.{arith, rules}
use Rattle.region.proofs.Operations.{stopped_few, whole_few}
use Rattle.region.proofs.rounds.next_round.Goals as goal

pub map_err-requires : goal.map_err-requires
map_err-requires g c = λ s is _ _ _ _ _. omega (arith, c.requires.1, stopped_few g.B.Board.width c.args.at c.args.bytes.now _ _ s _ g.met.B.Board.bounded.0 c.write_round.ensures is)

pub overflow_add-result : goal.overflow_add-result
overflow_add-result g c = omega (arith, c.requires.1, whole_few g.B.Board.width c.args.at c.args.bytes.now _ _ c.in_ok-carried.carried _ g.met.B.Board.bounded.0 c.write_round.ensures (search rules))
