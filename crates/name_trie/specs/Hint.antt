-- Where the search for a row begins among the rows of a node's children.
use Rattle.std.specs.Prelude.{◌≡◌, ◌+◌, ◌-◌, ◌<◌, ◌^◌, ℕ, Bool, true, false, List, length, min}
use Rattle.std.specs.List.{HoldsAt}
use Rattle.std.specs.declared.cmp.Ordering.{Ordering}
use Rattle.std.specs.Ordering.{is_lt, nat_cmp, ordering_then}
use Rattle.ndn_tlv.specs.Element.{Field}
use Rattle.name_trie.specs.declared.component_buf.Hint.{Hint}
use Rattle.name_trie.specs.Head.{head}

-- the hint for a component: its type, the number of octets of its value or 2^32 - 1 if this number
-- is greater, and the first eight octets of its value as a number
abbrev pub hint_of : Field → Hint
hint_of c = record { kind = c.0; len = min (length c.1) (2 ^ 32 - 1); head = head 8 c.1 }

abbrev pub root_hint : Hint
root_hint = record { kind = 0; len = 0; head = 0 }

-- the order of hints: by type, then length, then first octets
abbrev pub hint_cmp : Hint → Hint → Ordering
hint_cmp a b =
    ordering_then (ordering_then (nat_cmp a.kind b.kind) (nat_cmp a.len b.len))
    (nat_cmp a.head b.head)

-- whether the component comes before the position that the hint gives
abbrev pub is_before : Field → Hint → Bool
is_before c hint = is_lt (hint_cmp (hint_of c) hint)

-- Index `at` is where the hint belongs among the rows: the row before this index, if any, comes
-- before the position that the hint gives, and the row at this index, if any, does not.
pub record IsPlace (hint : Hint) (rows : List (Field × ℕ)) (at : ℕ) : Type 0 where
  pub below : (k : ℕ) → k + 1 ≡ at → HoldsAt (λ row. is_before row.0 hint ≡ true) rows k
  pub above : at < length rows → HoldsAt (λ row. is_before row.0 hint ≡ false) rows at
