-- Two journals that restore the same tables on empty nodes.
use Rattle.std.proofs.Common.{ℕ, Bool, List, Result, Ok, Err}
use Rattle.std.specs.Prelude.{IfOk, IsTrue}
use Rattle.ndn_tlv.specs.Element.{Field}
use Rattle.forwarder.specs.Node.{NodeState}
use Rattle.journal_shortening.specs.Comparing.{HaveSameTables}
use Rattle.journal_shortening.specs.declared.fault.ShortenFault.{ShortenFault}
use Rattle.journal_shortening.specs.Shortened.{AgreeOnEmptyNodes, AgreesWithEmptyNode, IsEmptyNode}

-- Let `other_first` be an empty node. If the result `Ok(true)` implies that `other` restores on
-- `other_first` the tables that `text` restores on `first`, then `Ok(true)` also implies
-- `AgreesWithEmptyNode`.
pub on_empty : (repo : List Field) (text other : List ℕ) (first last other_first other_last : NodeState) (r : Result Bool ShortenFault) → IsEmptyNode repo other_first
    → IfOk r (λ same. IsTrue same → HaveSameTables text first last other other_first other_last) → IfOk r (λ same. IsTrue same → AgreesWithEmptyNode repo text first last other)
on_empty repo text other first last other_first other_last (Ok same) empty h = λ t. record { other_first = other_first; other_last = other_last; is_empty = empty; tables = h t }
on_empty repo text other first last other_first other_last (Err fault) empty h = tt

-- Let `first` be an empty node. If the result `Ok(true)` implies that `other` restores on some
-- empty node the tables that `text` restores on `first`, then `Ok(true)` also implies
-- `AgreeOnEmptyNodes`.
pub on_both_empty : (repo : List Field) (text other : List ℕ) (first last : NodeState) (r : Result Bool ShortenFault) → IsEmptyNode repo first
    → IfOk r (λ same. IsTrue same → AgreesWithEmptyNode repo text first last other) → IfOk r (λ same. IsTrue same → AgreeOnEmptyNodes repo text other)
on_both_empty repo text other first last (Ok same) empty h = λ t. let one = h t in record {
  first = first;
  last = last;
  other_first = one.other_first;
  other_last = one.other_last;
  is_empty = empty;
  other_is_empty = one.is_empty;
  tables = one.tables;
}
on_both_empty repo text other first last (Err fault) empty h = tt
