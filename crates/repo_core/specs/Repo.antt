-- The state of a repository, and the effects of commands, Data and time.
use Rattle.std.specs.Prelude.{◌≡◌, ℕ, ◌+◌, ◌≤◌, List, [], ◌∷◌, Bool, true, false, nat_lt, nat_le, ◌==◌, ◌||◌, Option, None, Some, IfSome, refl, if◌then◌else◌}
use Rattle.std.specs.Coded.{Coded, code_by, coded×, coded_list, coded_ℕ, coded_option}
use Rattle.std.specs.FinMap as map
use Rattle.ndn_tlv.specs.Element.{Field}
use Rattle.ndn_packets.specs.Answers.{full_name}
use Rattle.repo_core.specs.declared.verb.Verb.{Verb}
use Rattle.repo_core.specs.declared.verb.Verb.TheVariants.{Insert, Delete, Check}
use Rattle.repo_core.specs.declared.reply.RepoReply.{RepoReply}
use Rattle.repo_core.specs.declared.reply.Want.{Want}
use Rattle.repo_core.specs.declared.repo.TheConstants.{MAX_HELD, MAX_WANTS}
use Rattle.repo_core.specs.declared.types.TheConstants.{BAD_PARAMETERS, NOT_FOUND, OK, PENDING}
use Rattle.repo_core.specs.Commands.{Case, Stored, Wanted, NoPlace, Otherwise, verb_row}
use Rattle.repo_core.specs.Reading.{RepoCommand, repo_command_at}
use Rattle.repo_core.specs.Objects.{Objects, number_answering, without_answering}
use Rattle.repo_core.specs.Wants.{Wants, WantKey, want_code, is_wanted, unfilled, want_deadline, wants_after}

-- what a repository holds: stored Data (objects) and pending inserts (wants)
pub record Held : Type 0 where
  pub objects : Objects
  pub wants : Wants

pub record RepoState : Type 0 where
  pub start : List Field
  pub held : Held
  -- `prepared_want`: the name for which an insert is prepared. The insert may have CanBePrefix or
  -- not. `prepared_object`: the full name and the octets of the Data whose offer is prepared.
  pub prepared_want : Option (List Field)
  pub prepared_object : Option (List Field × List ℕ)

-- there are at most 64 wants, and at most 65,536 objects and wants together
abbrev pub IsWithinLimits : Held → Type 0
IsWithinLimits s =
    (map.len s.wants ≤ MAX_WANTS) × (map.len s.objects + map.len s.wants ≤ MAX_HELD)

-- ---- commands

abbrev pub want_key : RepoCommand → WantKey
want_key c = (c.name, c.can_be_prefix)

abbrev pub is_repo_full : Held → Bool
is_repo_full s =
    nat_le MAX_WANTS (map.len s.wants) || nat_le MAX_HELD (map.len s.objects + map.len s.wants)

abbrev pub holds : Held → RepoCommand → Case → Bool
holds s c Stored = nat_lt 0 (number_answering c.name c.can_be_prefix s.objects)
holds s c Wanted = map.contains_key s.wants (want_key c)
holds s c NoPlace = is_repo_full s
holds s c Otherwise = true

-- the status of the first case that applies, or 404 if no case applies
abbrev pub first_case_status : Held → RepoCommand → List (Case × ℕ) → ℕ
first_case_status s c [] = NOT_FOUND
first_case_status s c (row ∷ rows) = if holds s c row.0 then row.1 else first_case_status s c rows

abbrev pub repo_status_of : Held → RepoCommand → ℕ
repo_status_of s c = first_case_status s c (verb_row c.verb).answers

-- the Interest to send, with the Name, CanBePrefix and lifetime in the command's parameters, if the
-- command is an insert with status 100 (pending); otherwise None
abbrev pub fetch_of : RepoCommand → ℕ → Option Want
fetch_of c status =
    elim c.verb [
      | Insert ↦ if status == PENDING then Some (record {
        name = c.name;
        can_be_prefix = c.can_be_prefix;
        lifetime = c.lifetime;
      }) else None
      | _ ↦ None
    ]

-- the reply with this status; if the status is 200, the count is the number of objects that match
-- the command; otherwise the count is 0
abbrev pub reply_with : Held → RepoCommand → ℕ → RepoReply
reply_with s c status = record {
  status = status;
  count = if status == OK then number_answering c.name c.can_be_prefix s.objects else 0;
  fetch = fetch_of c status;
}

abbrev pub reply_to : Held → Option RepoCommand → RepoReply
reply_to s None = record { status = BAD_PARAMETERS; count = 0; fetch = None }
reply_to s (Some c) = reply_with s c (repo_status_of s c)

-- the state after an insert: an insert with status 100 adds a want (a pending insert), or sets the
-- deadline of the want with the same name and CanBePrefix flag; an insert with another status
-- changes nothing
abbrev pub after_insert : RepoCommand → ℕ → Held → Held
after_insert c now s =
    if repo_status_of s c == PENDING then record s {
      wants = map.insert s.wants (want_key c) (want_deadline now c.lifetime);
    } else s

abbrev pub after_delete : RepoCommand → Held → Held
after_delete c s =
    if repo_status_of s c == OK then record {
      objects = without_answering c.name c.can_be_prefix s.objects;
      wants = map.remove s.wants (want_key c);
    } else s

abbrev pub after_known : RepoCommand → ℕ → Held → Held
after_known c now s =
    elim c.verb [ Insert ↦ after_insert c now s | Delete ↦ after_delete c s | Check ↦ s ]

-- the state after a command at the time `now`; without a command, the state is unchanged
abbrev pub after_some : Option RepoCommand → ℕ → Held → Held
after_some None now s = s
after_some (Some c) now s = after_known c now s

-- the state after the command with the name `name` at the time `now`, in a repository with the
-- prefix `start`
abbrev pub after_command : List Field → List Field → ℕ → Held → Held
after_command start name now s = after_some (repo_command_at start name) now s

-- there is a command, and it is an insert that creates or renews a want, so it may need memory
abbrev pub MakesWant : Held → Option RepoCommand → Type 0
MakesWant s None = ⊥
MakesWant s (Some c) = (c.verb ≡ Insert) × (repo_status_of s c ≡ PENDING)

-- ---- Data

-- The state after the offer of a Data. A wanted Data is stored, replaces any object with the same
-- full name, and removes the wants that it answers. A Data that is not wanted changes nothing.
abbrev pub after_offer : List Field → List ℕ → List ℕ → Held → Held
after_offer name digest octets s =
    if is_wanted name digest s.wants then record {
      objects = map.insert s.objects (full_name name digest) octets;
      wants = unfilled name digest s.wants;
    } else s

-- ---- time

-- the state without the wants that have expired by `now`
abbrev pub after_time : ℕ → Held → Held
after_time now s = record s { wants = wants_after now s.wants }

-- ---- preparations

-- whether the command is an insert, the only command that can create a want
abbrev pub is_insert : Verb → Bool
is_insert Insert = true
is_insert Delete = false
is_insert Check = false

-- whether the name encodes an insert in a repository with the prefix `start`
abbrev pub is_insert_at : List Field → List Field → Bool
is_insert_at start name =
    elim (repo_command_at start name) [ None ↦ false | Some c ↦ is_insert c.verb ]

abbrev pub IsCommandPrepared : RepoState → List Field → Type 0
IsCommandPrepared s name =
    IfSome (repo_command_at s.start name)
    (λ c. is_insert c.verb ≡ true → s.prepared_want ≡ Some c.name)

-- the Data is not wanted, or the offer of the Data is prepared
abbrev pub IsOfferPrepared : RepoState → List Field → List ℕ → List ℕ → Type 0
IsOfferPrepared s name digest octets =
    is_wanted name digest s.held.wants ≡ true
    → s.prepared_object ≡ Some (full_name name digest, octets)

-- ---- encodings of the state

abbrev pub octets_code : Coded (List ℕ)
octets_code = coded_list coded_ℕ

abbrev pub name_code : Coded (List Field)
name_code = coded_list (coded× coded_ℕ octets_code)

abbrev pub held_code : Coded Held
held_code =
    code_by (Objects × Wants) (coded× (map.code name_code octets_code) (map.code want_code coded_ℕ))
    (λ s. (s.objects, s.wants)) (λ p. record { objects = p.0; wants = p.1 }) (λ _. refl)

abbrev pub state_code : Coded RepoState
state_code =
    code_by (List Field × (Held × (Option (List Field) × Option (List Field × List ℕ))))
    (coded× name_code (coded× held_code
    (coded× (coded_option name_code) (coded_option (coded× name_code octets_code)))))
    (λ s. (s.start, (s.held, (s.prepared_want, s.prepared_object))))
    (λ p. record { start = p.0; held = p.1.0; prepared_want = p.1.1.0; prepared_object = p.1.1.1 })
    (λ _. refl)
