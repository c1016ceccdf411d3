use Rattle.std.proofs.Common.{◌≡◌, MatchResult, rules}
use Rattle.survey.proofs.Updates.{updated}
use Rattle.survey.proofs.record.update.Goals as goal

pub returns : goal.returns
returns g c long =
    let k = c.unwrap_or_else.result in
    let answer : MatchResult c.write_round.result (λ j. k ≡ j) (λ t. k ≡ t.carried) = search rules in
    updated _ _ _ _ _ c.write_round.result (c.prepare.ensures.prepared long) c.write_round.ensures answer
