-- The two flags of a key, CanBePrefix and MustBeFresh, and the order of flags.
use Rattle.std.specs.Prelude.{Bool, List, refl}
use Rattle.std.specs.Coded.{Coded, code_by, coded×, coded_bool}
use Rattle.std.specs.declared.cmp.Ordering.{Ordering}
use Rattle.std.specs.Ordering.{on, then_cmp, bool_cmp, eq_by_cmp}
use Rattle.ndn_tlv.specs.Element.{Field}
use Rattle.ndn_packets.specs.Key.{PlainKey}
use Rattle.pit_fib.specs.declared.flags.Flags.{Flags}

abbrev pub flags : Bool → Bool → Flags
flags can_be_prefix must_be_fresh =
    record { can_be_prefix = can_be_prefix; must_be_fresh = must_be_fresh }

-- flags are ordered by CanBePrefix, then by MustBeFresh; false comes before true
abbrev pub flags_cmp : Flags → Flags → Ordering
flags_cmp =
    then_cmp (on (λ f. f.can_be_prefix) bool_cmp) (on (λ f. f.must_be_fresh) bool_cmp)

abbrev pub same_flags : Flags → Flags → Bool
same_flags = eq_by_cmp flags_cmp

abbrev pub flags_code : Coded Flags
flags_code =
    code_by (Bool × Bool) (coded× coded_bool coded_bool)
    (λ f. (f.can_be_prefix, f.must_be_fresh)) (λ p. flags p.0 p.1) (λ _. refl)

abbrev pub flags_of : PlainKey → Flags
flags_of k = flags k.can_be_prefix k.must_be_fresh

-- the key with this name and these flags
abbrev pub key_at : List Field → Flags → PlainKey
key_at name f = record {
  name = name;
  can_be_prefix = f.can_be_prefix;
  must_be_fresh = f.must_be_fresh;
}
