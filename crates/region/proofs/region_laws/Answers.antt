use Rattle.region.proofs.Writing.{read_back}
use Rattle.region.proofs.Changes.{settled_found, one_change, marker_moves, change_lasts}
use Rattle.region.proofs.Formats.{format_cut, format_lasts}
use Rattle.region.proofs.Effects.{reads_exactly, pad_back, effect, frames_alone_count}
use Rattle.region.proofs.region_laws.Goals as goal

pub returns : goal.returns
returns c =
    record {
      reads_exactly = reads_exactly;
      pad_back = pad_back;
      read_back = read_back;
      effect = effect;
      settled_found = settled_found;
      one_change = one_change;
      marker_moves = marker_moves;
      change_lasts = change_lasts;
      format_cut = format_cut;
      format_lasts = format_lasts;
      frames_alone_count = frames_alone_count;
    }
