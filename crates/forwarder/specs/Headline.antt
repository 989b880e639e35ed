-- The headline: what is true of every event of a valid run of a node. A command or Data that rules
-- decide gets the verdict of the first matching rule, or the verdict that no rule matched. Other
-- events are passed or dropped. Routes, strategies and the repository are the fold of the commands
-- and Data that were allowed, of the faces that closed, and of time. Each command is allowed once.
-- Each Data that is sent was asked for. An object is stored only if it was wanted and allowed, and
-- is removed only by an allowed delete. These words are defined elsewhere:
-- Policy: `at_moment was now` is the policy `was` once time has advanced to `now`;
-- Effects: `IsAfter` is the policy after an event; `decided_packet p event` is the command or Data
--   that the event brings, if rules decide it;
-- Deciding: `IsDecidedAs p packet decision` is what the first matching rule decides;
-- Commands: `command_answer` is the answer to a command by a decision: its verdict and the text of
--   its reply name the rule and the reason, or say that no rule matched;
-- Allowed: `Allows was event packet` and `AllowedIn first past packet`: the packet was allowed;
-- Fold: `folded first run` is the fold;
-- AskedFor: `WasAskedFor` and `AnswersItself` say which Interest a Data answers;
-- TokenOwners: `IsOwnToken` says that a face brought a token;
-- Replies: `IsSentToAskers` says to which faces a Data is sent, with which tokens.
use Rattle.std.specs.Prelude.{◌≡◌, ◌⊎◌, ◌<◌, ℕ, List, [], Option, None, Some, IsSome, IsTrue, Ok, All, Contains, true, max}
use Rattle.std.specs.FinMap as map
use Rattle.sha2.specs.Sha256.{sha256}
use Rattle.ndn_tlv.specs.Element.{Field}
use Rattle.ndn_packets.specs.Answers.{full_name}
use Rattle.ndn_packets.specs.FrameReading.{frame_at, token_at}
use Rattle.ndn_packets.specs.Packet.{PlainInterest, PlainData, PlainFrame, AnInterest, AData, ANack, Idle}
use Rattle.info_rules.specs.declared.decision.Decision.{Decision}
use Rattle.info_rules.specs.declared.decision.Decision.TheVariants as decided
use Rattle.info_rules.specs.declared.rule.Kind.TheVariants as kinds
use Rattle.pit_fib.specs.Records.{Pending}
use Rattle.repo_core.specs.declared.verb.Verb.TheVariants.{Insert, Delete}
use Rattle.repo_core.specs.Objects.{full_name_answers}
use Rattle.repo_core.specs.Reading.{RepoCommand, repo_command_at}
use Rattle.repo_core.specs.Repo.{want_key}
use Rattle.repo_core.specs.Wants.{WantKey, is_wanted, want_deadline}
use Rattle.forwarder.specs.Allowed.{AllowedIn, Allows}
use Rattle.forwarder.specs.AskedFor.{AnswersItself, WasAskedFor}
use Rattle.forwarder.specs.DataSends.{BringsOctets, is_data}
use Rattle.replay_guard.specs.Freshness.{NumberRises, Recorded}
use Rattle.forwarder.specs.Commands.{command_answer}
use Rattle.forwarder.specs.Deciding.{IsDecidedAs, recorded_of}
use Rattle.forwarder.specs.Effects.{IsAfter, decided_packet, face_in}
use Rattle.forwarder.specs.Event.{PlainEvent, Token, moment, token_in}
use Rattle.forwarder.specs.Fold.{contents_of, folded}
use Rattle.forwarder.specs.Policy.{Policy, at_moment}
use Rattle.forwarder.specs.Replies.{IsSentToAskers}
use Rattle.forwarder.specs.Runs.{Run, Start, Then, IsRun, IsWaiting, KeysAreApart, events_back, now_of, seen_after}
use Rattle.forwarder.specs.TokenOwners.{IsOwnToken}
use Rattle.forwarder.specs.Verdict.{Passed, DataAllowed, Denied, NoRule, Dropped, DropReason, Answer}

-- ---- commands and Data that rules decide

-- the answer to a packet that came on this face with this token, and on which this is decided
abbrev pub IsAnswerBy : Policy → ℕ → Token → PlainFrame → Decision → Answer → Type 0
IsAnswerBy p face token (AnInterest whole i) decision answer =
    answer ≡ command_answer p face token i decision
IsAnswerBy p face token (AData whole d) (decided.Allowed rule) answer =
    answer.verdict ≡ DataAllowed rule.0 (is_wanted d.name (sha256 whole) p.held.wants)
IsAnswerBy p face token (AData whole d) (decided.Denied rule reason) answer =
    answer ≡ record { verdict = Denied kinds.Data rule.0 reason; sends = [] }
IsAnswerBy p face token (AData whole d) decided.NoRule answer =
    answer ≡ record { verdict = NoRule kinds.Data; sends = [] }
IsAnswerBy p face token (ANack reason whole i) decision answer = ⊥
IsAnswerBy p face token Idle decision answer = ⊥

-- the answer follows from what the first matching rule decides; without a packet that rules decide,
-- the event is passed or dropped
abbrev pub NamesItsRule : Policy → ℕ → Token → Option PlainFrame → Answer → Type 0
NamesItsRule p face token None answer =
    (answer.verdict ≡ Passed) ⊎ ((reason : DropReason) × (answer.verdict ≡ Dropped reason))
NamesItsRule p face token (Some packet) answer =
    (decision : Decision) × IsDecidedAs p packet decision
    × IsAnswerBy p face token packet decision answer

-- ---- what comes, and what goes

-- the Data was allowed, and a pending insert asked for it
abbrev pub Stores : Policy → PlainEvent → List Field → List ℕ → Type 0
Stores was event name octets =
    (d : PlainData) × Allows was event (AData octets d) × (name ≡ full_name d.name (sha256 octets))
    × IsTrue (is_wanted d.name (sha256 octets) (at_moment was (moment event)).held.wants)

-- a command to the repository was allowed
abbrev pub BringsRepoCommand : Policy → PlainEvent → RepoCommand → Type 0
BringsRepoCommand was event c =
    (whole : List ℕ) × (i : PlainInterest) × Allows was event (AnInterest whole i)
    × (repo_command_at was.repo i.name ≡ Some c)

abbrev pub Deletes : Policy → PlainEvent → List Field → Type 0
Deletes was event name =
    (c : RepoCommand) × BringsRepoCommand was event c × (c.verb ≡ Delete)
    × IsTrue (full_name_answers c.name c.can_be_prefix name)

abbrev pub AddsWant : Policy → PlainEvent → WantKey → ℕ → Type 0
AddsWant was event key deadline =
    (c : RepoCommand) × BringsRepoCommand was event c × (c.verb ≡ Insert) × (want_key c ≡ key)
    × (deadline ≡ want_deadline (at_moment was (moment event)).now c.lifetime)

-- ---- every event

-- `was` and `new` are the policies before and after the event
pub record AtEvent (first : Policy) (past : Run) (was : Policy) (event : PlainEvent)
    (answer : Answer) (new : Policy) : Type 0 where
  pub after : IsAfter was event new
  pub rule : NamesItsRule (at_moment was (moment event)) (face_in event) (token_in event)
      (decided_packet (at_moment was (moment event)) event) answer
  -- the fold reads verdicts alone; by `rule`, they are what the first matching rules decide
  pub fold : contents_of new ≡ folded first (Then past event answer)
  -- no two allowed commands have the same signature, and each is newer than the earlier ones of its
  -- signer
  pub once : (whole other : List ℕ) (i j : PlainInterest)
      → AllowedIn first past (AnInterest whole i) → Allows was event (AnInterest other j)
      → i.signature ≡ j.signature → ⊥
  pub newer : (whole other : List ℕ) (i j : PlainInterest) (r s : Recorded)
      → AllowedIn first past (AnInterest whole i) → Allows was event (AnInterest other j)
      → recorded_of i ≡ Some r → recorded_of j ≡ Some s → r.signer ≡ s.signer
      → (r.time < s.time) × NumberRises r.number s.number
  -- each Data that is sent was asked for, and was allowed or is the node's own answer
  pub asked : (face : ℕ) (octets : List ℕ) → Contains answer.sends (face, octets)
      → is_data octets ≡ true
      → ((whole : List ℕ) × (d : PlainData) × (frame_at octets ≡ Ok (AData whole d))
      × WasAskedFor first past was event (face, octets) whole d)
      ⊎ AnswersItself was event (face, octets)
  -- a PIT token goes only to the face that brought it, be it with a Data, a Nack or a reply
  pub token : (face : ℕ) (octets token : List ℕ) → Contains answer.sends (face, octets)
      → token_at octets ≡ Some token → IsOwnToken past event face token
  -- an allowed Data is sent once to each other face that waits for it, with the token of the face's
  -- Interest, and to no further face
  pub given : (whole : List ℕ) (d : PlainData) → Allows was event (AData whole d)
      → (waiting : Pending) × IsWaiting past (max (now_of past) (moment event)) waiting
      × IsSentToAskers (seen_after past (at_moment was (moment event)) waiting) (face_in event)
      whole d answer.sends
  -- an object comes only with an allowed Data that a pending insert asks for, and is removed only
  -- by an allowed delete; a pending insert comes only by an allowed insert
  pub stored : (name : List Field) (octets : List ℕ) → map.get new.held.objects name ≡ Some octets
      → (map.get was.held.objects name ≡ Some octets) ⊎ Stores was event name octets
  pub kept : (name : List Field) → IsSome (map.get was.held.objects name)
      → IsSome (map.get new.held.objects name) ⊎ Deletes was event name
  pub inserted : (key : WantKey) (deadline : ℕ) → map.get new.held.wants key ≡ Some deadline
      → (map.get was.held.wants key ≡ Some deadline) ⊎ AddsWant was event key deadline

-- the run leads from the policy `first` to the policy `p`, and all this is true of each event
abbrev pub Headline : Policy → Run → Policy → Type 0
Headline first Start p = p ≡ first
Headline first (Then before event answer) p =
    (was : Policy) × Headline first before was × AtEvent first before was event answer p

-- a valid run of a node: no two keys in force have the same name, and packets consist of octets
pub record IsNodeRun (first : Policy) (run : Run) : Type 0 where
  pub valid : IsRun first run
  pub keys : KeysAreApart first run
  pub octets : All BringsOctets (events_back run)
