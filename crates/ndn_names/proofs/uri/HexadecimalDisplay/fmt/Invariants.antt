use Rattle.std.proofs.Common.{false, take, flat_map}
use Rattle.std.specs.Fmt.{HasWritten, IsPlainFormatter}
use Rattle.ndn_names.specs.Uri.{hexadecimal}
use Rattle.ndn_names.proofs.uri.HexadecimalDisplay.fmt.Given as goal

abbrev pub invariant-loop-octet : goal.invariant-loop-octet
invariant-loop-octet g l =
    IsPlainFormatter l.initial.f
    → HasWritten g.W.Write.write_str_gives l.initial.f (flat_map (hexadecimal false) (take l.octet-index l.octet-items)) l.f
