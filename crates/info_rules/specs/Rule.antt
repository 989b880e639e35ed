-- Rules as plain data.
use Rattle.std.specs.Prelude.{ℕ, List, Bool, true, false, option_map, slice_get, unwrap_or}
use Rattle.std.specs.List.{list_any}
use Rattle.info_rules.specs.declared.rule.Kind.{Kind}
use Rattle.info_rules.specs.declared.rule.NameTest.{NameTest}
use Rattle.info_rules.specs.declared.rule.Checker.{Checker}
use Rattle.info_rules.specs.declared.rule.Checker.TheVariants as checkers

-- A rule applies to packets of its kind. If the rule has filters, it applies only to packets whose
-- name passes a filter. The rule allows a packet that passes one of its checkers.
pub record PlainRule : Type 0 where
  pub id : List ℕ
  pub kind : Kind
  pub filters : List NameTest
  pub checkers : List Checker

-- the checker passes Data without verifying their signatures
abbrev pub is_unverified : Checker → Bool
is_unverified checkers.Sha256 = false
is_unverified (checkers.Keyed algorithm test) = false
is_unverified checkers.Unsupported = false
is_unverified checkers.Unverified = true

-- the rule has an unverified checker
abbrev pub has_unverified : PlainRule → Bool
has_unverified rule = list_any is_unverified rule.checkers

-- the rule at this index has an unverified checker; false if there is no rule at this index
abbrev pub is_unverified_at : List PlainRule → ℕ → Bool
is_unverified_at rules n = unwrap_or (option_map has_unverified (slice_get rules n)) false
