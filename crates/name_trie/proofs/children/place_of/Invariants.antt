use Rattle.std.proofs.Common.{◌≡◌, ℕ, ◌-◌, ◌<◌, ◌≤◌, length, get_or, take}
use Rattle.std.specs.declared.cmp.Ordering.TheVariants.{Less}
use Rattle.ndn_tlv.specs.Element.{Field}
use Rattle.ndn_names.specs.Order.{component_cmp}
use Rattle.ndn_names.specs.View.{field_of}
use Rattle.ndn_names.proofs.Rows.{AllLower}
use Rattle.name_trie.proofs.children.place_of.Given as goal

abbrev pub invariant-loop-low : goal.invariant-loop-low
invariant-loop-low l =
    (l.low ≤ l.high) × (l.high ≤ length l.rows) × AllLower component_cmp (field_of l.component) (take l.low l.rows)
    × ((row : Field × ℕ) → l.high < length l.rows → row ≡ get_or l.rows l.high row → component_cmp (field_of l.component) row.0 ≡ Less)

abbrev pub decreases-loop-low : goal.decreases-loop-low
decreases-loop-low l = l.high - l.low
