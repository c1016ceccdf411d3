-- The byte of a marker, and the marker of a byte.
use Rattle.std.specs.Prelude.{◌≡◌, ℕ, cond, Some, None, Option, Result, MatchResult, nat_lt}
use Rattle.layout.specs.declared.marker.Marker.{Marker}
use Rattle.layout.specs.declared.marker.NoMarker.{NoMarker}
use Rattle.layout.specs.Layout.{marker_limit, marker_byte, is_last, live_pad}

abbrev pub marker_of : ℕ → Option Marker
marker_of b = cond (nat_lt b marker_limit) (Some (record { live = live_pad b; last = is_last b })) None

-- b is the marker's byte
abbrev pub IsByte : Marker → ℕ → Type 0
IsByte x b = b ≡ marker_byte x.live x.last

-- the marker with this byte, or that there is none
abbrev pub IsMarker : ℕ → Result Marker NoMarker → Type 0
IsMarker b r = MatchResult r (λ x. marker_of b ≡ Some x) (λ _. marker_of b ≡ None)
