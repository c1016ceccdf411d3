use Rattle.survey.proofs.Updates.{found_size}
use Rattle.survey.proofs.table.Row.of.Goals as goal

pub returns-clause-shown : goal.returns-clause-shown
returns-clause-shown g c long =
    let old = c.found.ensures.found long in
    let new = c.found-2.ensures.found (found_size _ _ _ _ old) in
    record { carried = c.update-carried.ensures (found_size _ _ _ _ new); old = (_, old); new = (_, new) }
