use Rattle.std.proofs.Common.{◌≤◌}
use Rattle.survey.proofs.table.survey.Given as goal

abbrev pub invariant-loop-supply : goal.invariant-loop-supply
invariant-loop-supply g l = l.torn ≤ l.supply
