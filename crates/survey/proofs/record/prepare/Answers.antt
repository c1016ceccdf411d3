use Rattle.std.proofs.Common.{◌∙◌}
use Rattle.survey.proofs.Updates.{prepared, round_size}
use Rattle.survey.proofs.record.prepare.Goals as goal

pub returns : goal.returns
returns g c = record {
  size = c.cut-2.ensures.size ∙ (round_size _ _ _ _ _ c.write_round.result c.write_round.ensures ∙ c.cut.ensures.size);
  prepared = λ long. prepared _ _ _ _ _ _ _ _ c.write_round.result g.met.B.Board.bounded.0 long c.cut.ensures c.write_round.ensures c.cut-2.ensures;
}
