use Rattle.std.proofs.Common.{◌≡◌, take, flat_map}
use Rattle.std.specs.Fmt.{HasWritten, IsPlainFormatter}
use Rattle.ndn_names.specs.Uri.{escaped, is_periods}
use Rattle.ndn_names.proofs.uri.ValueDisplay.fmt.Given as goal

abbrev pub invariant-loop-octet : goal.invariant-loop-octet
invariant-loop-octet g l =
    (l.is_periods ≡ is_periods (take l.octet-index l.octet-items))
    × (IsPlainFormatter l.initial.f → HasWritten g.W.Write.write_str_gives l.initial.f (flat_map escaped (take l.octet-index l.octet-items)) l.f)
