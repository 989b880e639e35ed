use Rattle.std.proofs.Common.{◌≡◌, ◌≢◌, ◌+◌, ◌<◌, ◌≤◌, ℕ, List, length, get_or, drop, Bool, true, false, not, eqb, refl, sym, ap, ◌∙◌, arith}
use Rattle.std.proofs.lemmas.Bool.{ne_eqb}
use Rattle.std.proofs.lemmas.List.{drop_more, drop_all}
use Rattle.name_patterns.specs.PatternReading.{is_closed}
use Rattle.name_patterns.proofs.pattern_reader.is_closed.Goals as goal
use Rattle.name_patterns.proofs.pattern_reader.is_closed.Goals.{then-is_inside, else-is_inside+else-octet-eq41}

closed_end : (is_inside : Bool) (text : List ℕ) (i : ℕ) → length text ≤ i → is_closed is_inside (drop i text) ≡ false
unfolding is_closed
closed_end is_inside text i past = rw (drop_all i text past) refl

closed_inside : (text : List ℕ) (i : ℕ) → i < length text → is_closed true (drop i text) ≡ is_closed (not (eqb (get_or text i 0) 62)) (drop (i + 1) text)
unfolding is_closed
closed_inside text i within = rw (drop_more text i 0 within) refl

closed_outside : (text : List ℕ) (i : ℕ) → i < length text → get_or text i 0 ≢ 41 → is_closed false (drop i text) ≡ is_closed (eqb (get_or text i 0) 60) (drop (i + 1) text)
unfolding is_closed
closed_outside text i within other = rw (drop_more text i 0 within, ne_eqb (get_or text i 0) 41 other) refl

closed_here : (text : List ℕ) (i : ℕ) → i < length text → get_or text i 0 ≡ 41 → is_closed false (drop i text) ≡ true
unfolding is_closed
closed_here text i within here = rw (drop_more text i 0 within, here) refl

pub returns-then-octet-eq41 : goal.returns-then-octet-eq41
returns-then-octet-eq41 c =
    sym (rw c.if-is_inside.false at c.loop-octet.invariant ∙ closed_here c.args.text.now c.loop-octet.octet-index (omega arith) c.if-octet-eq41.true)

pub loop-octet-preserved : goal.loop-octet-preserved
loop-octet-preserved c =
    let text = c.args.text.now in
    let i = c.loop-octet.octet-index in
    elim c.if-is_inside.branch [
      | then-is_inside w ↦
          c.loop-octet.invariant ∙ ap (λ (b : Bool). is_closed b (drop i text)) w.if-is_inside.true ∙ closed_inside text i c.loop-octet-test.true
          ∙ ap (λ (b : Bool). is_closed b (drop (i + 1) text)) (sym w.is_inside-is)
      | else-is_inside+else-octet-eq41 w ↦
          c.loop-octet.invariant ∙ ap (λ (b : Bool). is_closed b (drop i text)) w.if-is_inside.false ∙ closed_outside text i c.loop-octet-test.true w.if-octet-eq41.false
          ∙ ap (λ (b : Bool). is_closed b (drop (i + 1) text)) (sym w.is_inside-is)
    ]

pub returns : goal.returns
returns c = sym (c.loop-octet.invariant ∙ closed_end c.loop-octet.is_inside c.args.text.now c.loop-octet.octet-index (omega arith))
