use Rattle.std.proofs.Common.{◌≡◌, MatchResult, sym, subst, rules, arith}
use Rattle.model.specs.Faults.{stack_detail}
use Rattle.region.specs.Frames.{SizeAllowed}
use Rattle.survey.proofs.Findings.{stopped}
use Rattle.survey.proofs.formats.start_format.Goals as goal

pub returns : goal.returns
returns g c fits =
    let k = c.unwrap_or_else.result in
    let answer : MatchResult c.format.result (λ j. k ≡ j) (λ e. k ≡ stack_detail e) = search rules in
    stopped _ _ _ _ _ c.format.result (c.prepare.ensures.prepared (omega (arith, fits.0))) (subst SizeAllowed (sym c.prepare.ensures.size) fits) c.format.ensures answer
