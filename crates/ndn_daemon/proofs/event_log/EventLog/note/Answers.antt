use Rattle.std.proofs.Common.{◌≡◌, ◌++◌, ◌∙◌, ℕ, List, inl, inr, ap, subst, sym}
use Rattle.std.specs.Prelude.{◌⊎◌, Option}
use Rattle.forwarder.specs.Event.{moment_of}
use Rattle.ndn_log.specs.Event.{event_words}
use Rattle.node_ports.specs.Step.{one_more}
use Rattle.ndn_daemon.specs.EventLog.{Begins, NotesEvent, so_far}
use Rattle.ndn_daemon.proofs.Logging.{noted}
use Rattle.ndn_daemon.proofs.event_log.EventLog.note.Goals as goal

pub returns : goal.returns
returns g c =
    let a = c.args.self.now in
    let b = c.begin.new.self in
    let p = c.put_event.new.self in
    let l = c.put_later.new.self in
    let n = c.put_counts.new.self in
    let w = c.write_old.new.self in
    let event = c.args.entry.now.event in
    let outcome = c.args.outcome.now in
    let words = event_words c.args.rules.now c.args.entry.now outcome in
    let begins : Begins a.text.items b.text.items (moment_of event) a.limits b.limits = rw c.moment-moment.ensures at c.begin.ensures.begins in
    let same_sink : n.sink ≡ a.sink =
    ap (λ s. s.sink) c.put_counts.ensures.others ∙ ap (λ s. s.sink) c.put_later.ensures.others ∙ ap (λ s. s.sink) c.put_event.ensures.others ∙ ap (λ s. s.sink) c.begin.ensures.others in
    let same_lost : w.lost ≡ l.lost = c.write_old.ensures.lost ∙ ap (λ s. s.lost) c.put_counts.ensures.others in
    let puts = subst (λ (k : ℕ). ((l.text.items ≡ p.text.items ++ p.later.items) × (k ≡ p.lost)) ⊎ ((l.text.items ≡ p.text.items) × (k ≡ one_more p.lost))) (sym same_lost) c.put_later.ensures.text in
    let all = noted (g.S.LogSink.given n.sink) (g.S.LogSink.given w.sink) a.text.items b.text.items p.text.items l.text.items n.text.items w.text.items a.limits b.limits a.lost p.lost w.lost
    a.shows_all event outcome words p.later.items begins puts c.put_counts.ensures.grows
    (elim c.write_old.ensures.writes [
      | inl e ↦ inl (ap (λ s. g.S.LogSink.given s.sink) e, ap (λ s. s.text.items) e)
      | inr h ↦ inr h
    ])
    (rw c.begin.ensures.others at c.put_event.ensures.shown) (rw c.begin.ensures.others at c.put_event.ensures.hidden) in
    subst (λ (given : Option (List ℕ)). NotesEvent a.shows_all a.text.items a.limits a.lost w.lost (so_far given a.text.items) (so_far (g.S.LogSink.given w.sink) w.text.items) event outcome words)
    (ap (λ s. g.S.LogSink.given s) same_sink) all
