-- The wants (pending inserts) of a repository, by name and CanBePrefix, each with its deadline. The
-- lifetime of a want is not stored.
use Rattle.std.specs.Prelude.{◌≡◌, ℕ, ◌+◌, ◌-◌, ◌^◌, min, nat_lt, not, Bool, List}
use Rattle.std.specs.Coded.{Coded, coded×, coded_bool}
use Rattle.std.specs.List.{list_any}
use Rattle.std.specs.declared.cmp.Ordering.{Ordering}
use Rattle.std.specs.Cmp.{IsTotalOrder, on_total, then_total, bool_cmp_total}
use Rattle.std.specs.FinMap.{FinMap, IsAntisymmetric, entries}
use Rattle.std.specs.Ordering.{on, then_cmp, bool_cmp}
use Rattle.ndn_tlv.specs.Element.{Field}
use Rattle.ndn_names.specs.Order.{name_cmp}
use Rattle.ndn_names.specs.Key.{both_tie, name_cmp-total, name_cmp-antisymmetric, name_code}
use Rattle.ndn_packets.specs.Answers.{answers}
use Rattle.ndn_packets.specs.Key.{bool_tie}
use Rattle.repo_core.specs.Objects.{kept}

-- a name and the CanBePrefix flag
abbrev pub WantKey : Type 0
WantKey = List Field × Bool

-- the order of wants: by name in canonical order; of two wants with the same name, the want with
-- CanBePrefix `false` comes first
abbrev pub want_cmp : WantKey → WantKey → Ordering
want_cmp = then_cmp (on (λ k. k.0) name_cmp) (on (λ k. k.1) bool_cmp)

pub want_cmp-total : IsTotalOrder want_cmp
want_cmp-total =
    then_total (on_total (λ (k : WantKey). k.0) name_cmp-total)
    (on_total (λ (k : WantKey). k.1) bool_cmp_total)

pub want_cmp-antisymmetric : IsAntisymmetric want_cmp
want_cmp-antisymmetric x y e =
    let a = both_tie _ _ e in
    let names : x.0 ≡ y.0 = name_cmp-antisymmetric x.0 y.0 a.0 in
    let flags : x.1 ≡ y.1 = bool_tie _ _ a.1 in
    λ i. (names i, flags i)

abbrev pub want_code : Coded WantKey
want_code = coded× name_code coded_bool

-- a map from the names and CanBePrefix flags of wants to the deadlines of the wants, in
-- milliseconds since 1970
abbrev pub Wants : Type 0
Wants = FinMap want_cmp ℕ

-- whether the Data with this name and implicit digest answers one of these wants
abbrev pub is_wanted : List Field → List ℕ → Wants → Bool
is_wanted name digest wants = list_any (λ w. answers name digest w.0.0 w.0.1) (entries wants)

-- the wants that the Data with this name and implicit digest does not answer
abbrev pub unfilled : List Field → List ℕ → Wants → Wants
unfilled name digest wants = kept (λ w. not (answers name digest w.0.0 w.0.1)) wants

-- the wants that have not expired by `now`
abbrev pub wants_after : ℕ → Wants → Wants
wants_after now wants = kept (λ w. nat_lt now w.1) wants

-- the deadline of a want that is added or renewed at `now` with this lifetime; the deadline is at
-- most 2^64 - 1
abbrev pub want_deadline : ℕ → ℕ → ℕ
want_deadline now lifetime = min (now + lifetime) (2 ^ 64 - 1)
