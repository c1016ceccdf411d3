use Rattle.std.proofs.Common.{◌/◌, length, arith, rules}
use Rattle.model.specs.Rounds.{stores, posts, lines}
use Rattle.model.proofs.Lists.{ran_size}
use Rattle.model.proofs.Rounds.{length-stores, length-posts}
use Rattle.board.proofs.Progress.{carried_err, carried_ok, carried_more, carried_both}
use Rattle.board.proofs.rounds.store_and_post.Goals as goal

pub post_lines-requires : goal.post_lines-requires
post_lines-requires g c =
    let size = ran_size g.B.Board.width (stores c.args.at c.args.bytes.now) _ _ c.in_ok-stored.ensures.1 in
    (c.requires.0, omega arith, c.requires.2)

pub map_err-requires : goal.map_err-requires
map_err-requires g c =
    λ s is _ _ _ _ _.
    let bs = c.args.bytes.now in
    let n = lines g.B.Board.width c.args.at (length bs) in
    omega (arith, c.requires.2, c.in_ok-stored.ensures.0, length-stores c.args.at bs, (carried_err g.B.Board.width (posts (c.args.at / g.B.Board.width) n) _ _ _ s c.post_lines.ensures.carried is).1.short, c.post_lines.ensures.few, length-posts (c.args.at / g.B.Board.width) n)

pub returns-in_err-posted : goal.returns-in_err-posted
returns-in_err-posted g c =
    let bs = c.args.bytes.now in
    carried_more g.B.Board.width (stores c.args.at bs) (posts (c.args.at / g.B.Board.width) (lines g.B.Board.width c.args.at (length bs))) _ _ _ _ _ _ c.in_ok-stored.ensures c.post_lines.ensures.carried (search rules)

pub overflow_add-result : goal.overflow_add-result
overflow_add-result g c =
    let bs = c.args.bytes.now in
    let n = lines g.B.Board.width c.args.at (length bs) in
    let posted = carried_ok g.B.Board.width (posts (c.args.at / g.B.Board.width) n) _ _ _ c.in_ok-posted.posted c.post_lines.ensures.carried (search rules) in
    omega (arith, c.requires.2, c.in_ok-stored.ensures.0, length-stores c.args.at bs, posted.0, c.post_lines.ensures.few, length-posts (c.args.at / g.B.Board.width) n)

pub returns : goal.returns
returns g c =
    let bs = c.args.bytes.now in
    let vs = posts (c.args.at / g.B.Board.width) (lines g.B.Board.width c.args.at (length bs)) in
    carried_both g.B.Board.width (stores c.args.at bs) vs _ _ _ _ _ c.in_ok-stored.ensures (carried_ok g.B.Board.width vs _ _ _ c.in_ok-posted.posted c.post_lines.ensures.carried (search rules))
