use Rattle.survey.proofs.Findings.{format_shown}
use Rattle.survey.proofs.formats.found.Goals as goal

pub returns : goal.returns
returns g c fits =
    format_shown g.B.Board.width c.start_format.result _ _ _ c.present_bytes.result c.from.result g.met.B.Board.bounded.0 (c.start_format.ensures fits) c.cut.ensures c.present_bytes.ensures.within c.from.ensures
