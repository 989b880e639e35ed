-- Rows with equal names and equal values are equal, and maps with the same rows are equal.
use Rattle.std.proofs.Common.{◌≡◌, ℕ, true, List, sym, ◌∙◌}
use Rattle.std.specs.Borrow.{Bor}
use Rattle.std.specs.Prelude.{map}
use Rattle.std.specs.FinMap.{entries, same_entries_map}
use Rattle.std.specs.Ordering.{eq_by_cmp}
use Rattle.std.specs.Cmp.{Equal-is}
use Rattle.ndn_tlv.specs.Element.{Field}
use Rattle.ndn_names.specs.Key.{name_cmp-antisymmetric}
use Rattle.ndn_names.specs.Order.{name_cmp}
use Rattle.pit_fib.specs.declared.strategy_table.StrategyId.{StrategyId}
use Rattle.pit_fib.specs.declared.route.Route.{Route}
use Rattle.pit_fib.specs.declared.route.RouteKey.{RouteKey}
use Rattle.pit_fib.specs.Fib.{Entry, Routes}
use Rattle.pit_fib.specs.Route.{Registered}
use Rattle.pit_fib.specs.StrategyTable.{Choices}
use Rattle.pit_fib.specs.Tables.{ByFace}
use Rattle.pit_fib.specs.SameEntries.{AreSame, plain_row}

same_name : (a b : List Field) → eq_by_cmp name_cmp a b ≡ true → a ≡ b
same_name a b e = name_cmp-antisymmetric a b ((Equal-is (name_cmp a b)).0 e)

pub same_choice : (a b : List Field × StrategyId) → eq_by_cmp name_cmp a.0 b.0 ≡ true → a.1 ≡ b.1 → a ≡ b
same_choice a b name strategy =
    let names : a.0 ≡ b.0 = same_name a.0 b.0 name in
    λ i. (names i, strategy i)

pub same_row : (a b : List Field × Bor Entry) → eq_by_cmp name_cmp a.0 b.0 ≡ true → a.1.now ≡ b.1.now → plain_row a ≡ plain_row b
same_row a b name entry =
    let names : a.0 ≡ b.0 = same_name a.0 b.0 name in
    λ i. (names i, entry i)

pub same_choices : (m n : Choices) (rows others : List (List Field × StrategyId)) → rows ≡ entries m → others ≡ entries n → rows ≡ others → m ≡ n
same_choices m n rows others ours theirs same = same_entries_map m n (sym ours ∙ same ∙ theirs)

pub same_routes : (m n : Routes) (rows others : List (List Field × Bor Entry)) → map plain_row rows ≡ entries m → map plain_row others ≡ entries n → AreSame rows others → m ≡ n
same_routes m n rows others ours theirs same = same_entries_map m n (sym ours ∙ same ∙ theirs)

pub same_numbers : (m n : ByFace) (rows others : List (ℕ × ℕ)) → rows ≡ entries m → others ≡ entries n → rows ≡ others → m ≡ n
same_numbers m n rows others ours theirs same = same_entries_map m n (sym ours ∙ same ∙ theirs)

pub same_registered : (m n : Registered) (rows others : List (RouteKey × Route)) → rows ≡ entries m → others ≡ entries n → rows ≡ others → m ≡ n
same_registered m n rows others ours theirs same = same_entries_map m n (sym ours ∙ same ∙ theirs)
