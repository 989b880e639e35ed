use Rattle.std.proofs.Common.{◌+◌, ◌++◌, List, Vec, Global, sym, ap, subst, ◌∙◌, rules, ℕ}
use Rattle.std.specs.Prelude.{Some}
use Rattle.std.specs.List.{concat}
use Rattle.ndn_segments.specs.declared.assembler.Assembler.TheInside.{Inside}
use Rattle.ndn_segments.specs.Segment.{plain_segment}
use Rattle.ndn_segments.specs.Assembling.{Assembly, answer_to, accepting, places_with, IsSound}
use Rattle.ndn_segments.specs.Held.{Places, in_order}
use Rattle.ndn_segments.proofs.Accepting.{IsFit, fit, made, next_small, next_sound, next_made, next_octets, held_made, held_octets, held_sound}
use Rattle.ndn_segments.proofs.assembler.Assembler.accept.Goals as goal
use Rattle.ndn_segments.proofs.assembler.Assembler.accept.Goals.{then-index-eq0+in_ok-count, else-index-eq0+in_ok-place}

-- the fields of the assembler when the call began, as plain data
abbrev before : Inside → Assembly
before i = record {
  stem = i.stem;
  limit = i.limit;
  window = i.window;
  last = i.last;
  next = i.next;
  held = i.held;
}

pub overflow_add-self : goal.overflow_add-self
overflow_add-self c =
    let s = plain_segment c.args.segment in
    let a = before c.self.inside in
    let ok : IsFit a s = fit a s (ap (λ (b : Assembly). answer_to b s) c.self.view_is ∙ c.requires.accepted) in
    let lt = next_small a s c.in_ok-count.count c.requires.last c.self.invariant ok c.if-index-eq0.true c.in_ok-count.ensures.ok.0 in
    search (rules, lt)

pub invariant_of-self-2 : goal.invariant_of-self-2
invariant_of-self-2 c =
    let s = plain_segment c.args.segment in
    let a = before c.self.inside in
    let ok : IsFit a s = fit a s (ap (λ (b : Assembly). answer_to b s) c.self.view_is ∙ c.requires.accepted) in
    let sound = λ (i : Inside). IsSound (Some s.last) i.next i.held in
    elim c.if-index-eq0.branch [
      | then-index-eq0+in_ok-count w ↦
          let fields = next_sound a s w.in_ok-count.count c.requires.last c.self.invariant ok w.if-index-eq0.true w.in_ok-count.ensures.ok.0 in
          subst sound (sym w.self-inside-is)
          (subst (λ (p : Places). IsSound (Some s.last) (a.next + w.in_ok-count.count) p) (sym w.remove_first.ensures) fields)
      | else-index-eq0+in_ok-place w ↦
          let fields = held_sound a s c.requires.last c.self.invariant ok w.if-index-eq0.false in
          subst sound (sym w.self-inside-is)
          (subst (λ (p : Places). IsSound (Some s.last) a.next p) (sym w.in_ok-place.ensures.ok) fields)
    ]

pub returns-clause-ok : goal.returns-clause-ok
returns-clause-ok c =
    let s = plain_segment c.args.segment in
    let a = before c.self.inside in
    let out = c.args.out.now.items in
    let later = λ (i : Inside). made (before i) s.last i.next i.held in
    let now = ap (λ (b : Assembly). accepting b s) c.self.view_is in
    let octets_now = ap (λ (b : Assembly). out ++ concat (in_order (places_with b s))) c.self.view_is in
    elim c.if-index-eq0.branch [
      | then-index-eq0+in_ok-count w ↦
          let count = w.in_ok-count.count in (
            ap later w.self-inside-is
                ∙ ap (λ (p : Places). made a s.last (a.next + count) p) w.remove_first.ensures
                ∙ next_made a s count w.if-index-eq0.true w.in_ok-count.ensures.ok.0
                ∙ now,
            ap (λ (o : Vec ℕ Global). o.items) w.out-is
                ∙ w.in_ok-count.ensures.ok.1
                ∙ ap (λ (t : List ℕ). out ++ t) (next_octets a s w.if-index-eq0.true)
                ∙ octets_now,
          )
      | else-index-eq0+in_ok-place w ↦ (
        ap later w.self-inside-is
            ∙ ap (λ (p : Places). made a s.last a.next p) w.in_ok-place.ensures.ok
            ∙ held_made a s c.self.invariant w.if-index-eq0.false
            ∙ now,
        ap (λ (o : Vec ℕ Global). o.items) w.out-is
            ∙ held_octets a s out c.self.invariant w.if-index-eq0.false
            ∙ octets_now,
      )
    ]
