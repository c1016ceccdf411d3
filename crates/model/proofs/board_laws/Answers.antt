use Rattle.model.proofs.Places.{settled_stays, settled_survives, cut_supplies, bytes_follow}
use Rattle.model.proofs.Lists.{stored_lasts, cut_old_or_new, ran_bytes, ran_spends}
use Rattle.model.proofs.Rounds.{round_posts, round_short, round_outside, round_old_or_new, round_lasts, round_bytes}
use Rattle.model.proofs.board_laws.Goals as goal

pub returns : goal.returns
returns c =
    record {
      settled_stays = settled_stays;
      stored_lasts = stored_lasts;
      cut_old_or_new = cut_old_or_new;
      settled_survives = settled_survives;
      cut_supplies = cut_supplies;
      bytes_follow = bytes_follow;
      ran_bytes = ran_bytes;
      ran_spends = ran_spends;
      round_posts = round_posts;
      round_short = round_short;
      round_outside = round_outside;
      round_old_or_new = round_old_or_new;
      round_lasts = round_lasts;
      round_bytes = round_bytes;
    }
