-- If a repository's prefix has too many components for a verb to follow, the options of the
-- subcommand `repo` spell no command name.
use Rattle.std.proofs.Common.{◌≡◌, ◌≢◌, ◌⊎◌, ◌≤◌, ℕ, List, [], ◌∷◌, ◌++◌, length, Bool, true, false, refl, Option, Some, Ok, Err, sym, ap, subst, ◌∙◌, arith, inl, inr, codes}
use Rattle.std.specs.Prelude.{nat_lt, if◌then◌else◌}
use Rattle.std.proofs.lemmas.List.{length-append}
use Rattle.clap.specs.Walk.{Row}
use Rattle.ndn_tlv.specs.Element.{Field}
use Rattle.ndn_names.specs.declared.component_type.TheConstants.{GENERIC}
use Rattle.ndn_names.specs.declared.fault.NameFault.{NameFault}
use Rattle.ndn_names.specs.declared.fault.NameFault.TheVariants.{TooManyComponents, Memory}
use Rattle.ndn_names.specs.Reading.{component_after}
use Rattle.ndn_names.specs.ReadsAs.{ReadsAs}
use Rattle.ndn_names.proofs.PathReading.{text_again}
use Rattle.ndn_jobs.specs.Options.{value_at, Has}
use Rattle.ndn_jobs.specs.RepositoryForm.{IsRepositoryName}

-- a text spells at most one name
same_name : (said : Option (List ℕ)) (a b : List Field) → Has said ReadsAs a → Has said ReadsAs b → a ≡ b
same_name said a b h k =
    let words : Some h.0 ≡ Some k.0 = sym h.1 ∙ k.1 in
    let word : h.0 ≡ k.0 = cc in
    let both = sym (text_again h.0 a h.2) ∙ text_again h.0 b (subst (λ (w : List ℕ). ReadsAs w b) (sym word) k.2) in
    cc

full_by : (n : ℕ) (c : Field) (why : NameFault) (b : Bool) → nat_lt n 64 ≡ b → (if b then Ok c else Err TooManyComponents) ≡ Err why → 64 ≤ n
full_by n c why true t e = absurd cc
full_by n c why false t e = grind (arith, t)

full : (n : ℕ) (verb : List ℕ) (why : NameFault) → component_after n (Ok (GENERIC, verb)) ≡ Err why → 64 ≤ n
full n verb why e = full_by n (GENERIC, verb) why (nat_lt n 64) refl e

too_long : (prefix name : List Field) (c : Field) → name ≡ prefix ++ c ∷ [] → length name ≤ 64 → 64 ≤ length prefix → ⊥
too_long prefix name c e room n =
    let size = ap length e ∙ length-append prefix (c ∷ []) in
    omega (arith, size, room, n)

pub no_room : (rows : List Row) (prefix : List Field) (verb : List ℕ) (why : NameFault) → Has (value_at rows (codes "PREFIX")) ReadsAs prefix
    → (component_after (length prefix) (Ok (GENERIC, verb)) ≡ Err why) ⊎ ((why ≡ Memory) × (component_after (length prefix) (Ok (GENERIC, verb)) ≡ Ok (GENERIC, verb)))
    → why ≢ Memory → (name : List Field) → IsRepositoryName rows name → ⊥
no_room rows prefix verb why has (inl e) other name h =
    too_long h.prefix name (GENERIC, h.verb) h.whole h.room (subst (λ (p : List Field). 64 ≤ length p) (same_name _ prefix h.prefix has h.placed) (full (length prefix) verb why e))
no_room rows prefix verb why has (inr m) other name h = other m.0
