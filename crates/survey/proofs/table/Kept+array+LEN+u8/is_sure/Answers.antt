use Rattle.std.proofs.Common.{rules}
use Rattle.survey.proofs.Images.{sure_from}
use Rattle.survey.proofs.table.Kept+array+LEN+u8.is_sure.Goals as goal

pub returns-then-eq : goal.returns-then-eq
returns-then-eq c = (λ e. sure_from _ _ _ c.told-whole (search rules) (search rules), λ s. search rules)
