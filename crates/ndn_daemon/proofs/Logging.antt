-- What a log has after an event was noted.
use Rattle.std.proofs.Common.{◌≡◌, ◌≤◌, ℕ, List, [], ◌∷◌, ◌++◌, inl, inr, refl, sym, ap, subst, ◌∙◌, arith, append_assoc, append-nil}
use Rattle.std.specs.Prelude.{◌⊎◌, Bool, true, false, Option, None, Some, Result}
use Rattle.std.specs.Io.KnownBytes.{Appends}
use Rattle.ndn_tlv.specs.declared.memory.Memory.{Memory}
use Rattle.forwarder.specs.declared.verdict.Verdict.{Verdict}
use Rattle.forwarder.specs.Event.{moment_of}
use Rattle.node_core.proofs.Known.{Appends-then}
use Rattle.node_ports.specs.Step.{one_more}
use Rattle.ndn_log.specs.Entry.{LoggedEvent}
use Rattle.ndn_log.specs.Limits.{LimitsState, is_over}
use Rattle.ndn_log.specs.Line.{AreLogged, IsLogged}
use Rattle.ndn_log.specs.Notes.{left_out_texts}
use Rattle.ndn_daemon.specs.EventLog.{Begins, LogsOrLoses, NotesEvent, SaysCount, TellsLeftOut, shows, so_far}

-- ---- a text that grows

abbrev pub Grows : List ℕ → List ℕ → Type 0
Grows old new = (more : List ℕ) × (new ≡ old ++ more)

pub grows_by_none : (old new : List ℕ) → new ≡ old → Grows old new
grows_by_none old new same = ([], same ∙ sym (append-nil old))

pub grows_then : (a b c : List ℕ) → Grows a b → Grows b c → Grows a c
grows_then a b c h k = (h.0 ++ k.0, k.1 ∙ ap (λ (t : List ℕ). t ++ k.0) h.1 ∙ append_assoc a h.0 k.0)

abbrev pub logged_grows : (old new : List ℕ) (moment : ℕ) (words : List ℕ) → IsLogged old new moment words → Grows old new
logged_grows old new moment words h = (_, h.appended)

all_grow : (old new : List ℕ) (moment : ℕ) (texts : List (List ℕ)) → AreLogged old new moment texts → Grows old new
all_grow old new moment [] h = grows_by_none old new h
all_grow old new moment (words ∷ more) h = grows_then old h.0 new (logged_grows old h.0 moment words h.1) (all_grow h.0 new moment more h.3)

pub count_grows : (old new : List ℕ) (moment : ℕ) (words : List ℕ) (count left : ℕ) → SaysCount old new moment words count left → Grows old new
count_grows old new moment words count left (inl h) = logged_grows old new moment words h.1
count_grows old new moment words count left (inr h) = grows_by_none old new h.0

begins_grows : (old new : List ℕ) (moment : ℕ) (limits after : LimitsState) → Begins old new moment limits after → Grows old new
begins_grows old new moment limits after h = by_over (is_over limits moment) refl
  where
    told : TellsLeftOut old new moment limits after → Grows old new
    told (inl k) = all_grow old new moment (left_out_texts limits) k.0
    told (inr k) = grows_by_none old new k.0

    by_over : (b : Bool) → is_over limits moment ≡ b → Grows old new
    by_over true e = told (h.over e)
    by_over false e = grows_by_none old new (h.present e).0

-- ---- all lines so far

grown_so_far : (given : Option (List ℕ)) (text more : List ℕ) → Appends (so_far given text) (so_far given (text ++ more)) more
grown_so_far None text more = tt
grown_so_far (Some lines) text more = sym (append_assoc lines text more)

written_so_far : (given gives : Option (List ℕ)) (text : List ℕ) → Appends given gives text → Appends (so_far given text) (so_far gives []) []
written_so_far None gives text h = tt
written_so_far (Some lines) None text h = absurd h
written_so_far (Some lines) (Some more) text h = ap (λ (l : List ℕ). l ++ []) h

-- ---- an event that was noted

module _ (given gives : Option (List ℕ)) (text began_text with_line with_later with_counts left : List ℕ) (limits began : LimitsState) (lost logged loses : ℕ)
    (shows_all : Bool) (event : LoggedEvent) (outcome : Result Verdict Memory) (words later : List ℕ)
    (begins : Begins text began_text (moment_of event) limits began)
    (puts : ((with_later ≡ with_line ++ later) × (loses ≡ logged)) ⊎ ((with_later ≡ with_line) × (loses ≡ one_more logged)))
    (counts : Grows with_later with_counts)
    (writes : ((gives ≡ given) × (left ≡ with_counts)) ⊎ ((left ≡ []) × Appends given gives with_counts)) where
  later_grows : ((with_later ≡ with_line ++ later) × (loses ≡ logged)) ⊎ ((with_later ≡ with_line) × (loses ≡ one_more logged)) → Grows with_line with_later
  later_grows (inl h) = (later, h.0)
  later_grows (inr h) = grows_by_none with_line with_later h.0

  not_less : ((with_later ≡ with_line ++ later) × (loses ≡ logged)) ⊎ ((with_later ≡ with_line) × (loses ≡ one_more logged)) → logged ≡ one_more lost → one_more lost ≤ loses
  not_less (inl h) e = omega (arith, h.1, e)
  not_less (inr h) e = omega (arith, h.1, e)

  told : Grows text began_text
  told = begins_grows text began_text (moment_of event) limits began begins

  rest : Grows with_line with_counts
  rest = grows_then with_line with_later with_counts (later_grows puts) counts

  written : ((gives ≡ given) × (left ≡ with_counts)) ⊎ ((left ≡ []) × Appends given gives with_counts) → Appends (so_far given with_counts) (so_far gives left) []
  written (inl h) =
      subst (λ (g : Option (List ℕ)). Appends (so_far given with_counts) (so_far g left) []) (sym h.0)
      (subst (λ (t : List ℕ). Appends (so_far given with_counts) (so_far given t) []) (append-nil with_counts ∙ sym h.1) (grown_so_far given with_counts []))
  written (inr h) = subst (λ (t : List ℕ). Appends (so_far given with_counts) (so_far gives t) []) (sym h.0) (written_so_far given gives with_counts h.1)

  -- all that was appended, if the line of the event is `line`
  appended : (line : List ℕ) → with_line ≡ began_text ++ line → Appends (so_far given text) (so_far gives left) (told.0 ++ (line ++ rest.0))
  appended line e =
      let all : with_counts ≡ text ++ (told.0 ++ (line ++ rest.0)) =
      rest.1 ∙ ap (λ (t : List ℕ). t ++ rest.0) (e ∙ ap (λ (t : List ℕ). t ++ line) told.1 ∙ append_assoc text told.0 line)
      ∙ append_assoc text (told.0 ++ line) rest.0 ∙ ap (λ (t : List ℕ). text ++ t) (append_assoc told.0 line rest.0) in
      let one = subst (λ (t : List ℕ). Appends (so_far given text) (so_far given t) (told.0 ++ (line ++ rest.0))) (sym all) (grown_so_far given text (told.0 ++ (line ++ rest.0))) in
      subst (Appends (so_far given text) (so_far gives left)) (append-nil (told.0 ++ (line ++ rest.0)))
      (Appends-then (so_far given text) (so_far given with_counts) (so_far gives left) (told.0 ++ (line ++ rest.0)) [] one (written writes))

  begun : Begins text (text ++ told.0) (moment_of event) limits began
  begun = subst (λ (t : List ℕ). Begins text t (moment_of event) limits began) told.1 begins

  abbrev Noted : Type 0
  Noted = NotesEvent shows_all text limits lost loses (so_far given text) (so_far gives left) event outcome words

  with_none : with_line ≡ began_text → (shows shows_all began event outcome ≡ true → one_more lost ≤ loses) → Noted
  with_none same lose = record {
    told = told.0;
    line = [];
    more = rest.0;
    began = began;
    begins = begun;
    shown = λ e. inr (refl, lose e);
    hidden = λ e. refl;
    appended = appended [] (same ∙ sym (append-nil began_text));
  }

  with_shown : shows shows_all began event outcome ≡ true → LogsOrLoses began_text with_line (moment_of event) words lost logged → Noted
  with_shown e (inl h) =
      let line = logged_grows began_text with_line (moment_of event) words h.0 in
      record {
        told = told.0;
        line = line.0;
        more = rest.0;
        began = began;
        begins = begun;
        shown = λ _. inl (record { time = h.0.time; is_time = h.0.is_time; appended = refl });
        hidden = λ f. absurd (let g : true ≡ false = sym e ∙ f in cc g);
        appended = appended line.0 line.1;
      }
  with_shown e (inr h) = with_none h.0 (λ _. not_less puts h.1)

  pub noted : (shows shows_all began event outcome ≡ true → LogsOrLoses began_text with_line (moment_of event) words lost logged)
      → (shows shows_all began event outcome ≡ false → (with_line ≡ began_text) × (logged ≡ lost)) → Noted
  noted shown hidden = by_shown (shows shows_all began event outcome) refl
    where
      by_shown : (b : Bool) → shows shows_all began event outcome ≡ b → Noted
      by_shown true e = with_shown e (shown e)
      by_shown false e = with_none (hidden e).0 (λ f. absurd (let g : false ≡ true = sym e ∙ f in cc g))
