-- The state of a walk at each name of a table, and what a visitor is shown of the table.
use Rattle.std.specs.Prelude.{ℕ, List, [], ◌++◌, Option, None, Some, fold}
use Rattle.ndn_tlv.specs.Element.{Field}
use Rattle.ndn_names.specs.Name.{octets_of}
use Rattle.name_trie.specs.Taken.{taken_along}

-- The state of a walk at a name: `before`, updated with the values of the name's proper prefixes,
-- the shortest first, and then with the name's own value.
abbrev pub known_at : {W V : Type 0} → (W → V → W) → W → (List Field → Option V) → List Field → W
known_at past before value name = taken_along past past before value [] name

-- the visitor s after it has been shown the names of all entries in order, each name with the state
-- at this name
abbrev pub shown_known : {S W V : Type 0} → (S → List ℕ → W → S) → (List Field → W) → S
    → List (List Field × V) → S
shown_known {S} {W} {V} show known s es =
    fold {A = List Field × V} {B = S} (λ s e. show s (octets_of e.0) (known e.0)) s es

-- the visitor s after it has been shown the names of all entries in order, each name with the value
-- of its entry
abbrev pub shown_each : {S X : Type 0} → (S → List ℕ → X → S) → S → List (List Field × X) → S
shown_each {S} {X} show s es =
    fold {A = List Field × X} {B = S} (λ s e. show s (octets_of e.0) e.1) s es

-- the visitor s after it has been shown the names of all entries in order; the octets `front` are
-- put before the octets of each name, and each name is shown with the state at this name
abbrev pub shown_after : {S W V : Type 0} → (S → List ℕ → W → S) → List ℕ → (List Field → W) → S
    → List (List Field × V) → S
shown_after {S} {W} {V} show front known s es =
    fold {A = List Field × V} {B = S} (λ s e. show s (front ++ octets_of e.0) (known e.0)) s es

-- if the optional state is Some w, the visitor s after it has been shown the name with the state w;
-- s itself if the optional state is None
abbrev pub shown_if : {S W : Type 0} → (S → List ℕ → W → S) → S → List ℕ → Option W → S
shown_if show s name None = s
shown_if show s name (Some w) = show s name w
