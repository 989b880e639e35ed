-- A map from names to values, and the name for which a call is prepared.
use Rattle.std.specs.Prelude.{List, Option, refl}
use Rattle.std.specs.Coded.{Coded, code_by, coded×, coded_option}
use Rattle.std.specs.FinMap as map
use Rattle.ndn_tlv.specs.Element.{Field}
use Rattle.ndn_names.specs.Key.{name_code}
use Rattle.name_trie.specs.ByName.{ByName}

pub record NameTable (X : Type 0) : Type 0 where
  pub table : ByName X
  -- the name for which a call is prepared, if there is such a call
  pub prepared : Option (List Field)

abbrev pub name_table_code : {X : Type 0} → Coded X → Coded (NameTable X)
name_table_code {X} x =
    code_by (ByName X × Option (List Field))
    (coded× (map.code name_code x) (coded_option name_code))
    (λ t. (t.table, t.prepared)) (λ p. record { table = p.0; prepared = p.1 }) (λ _. refl)
