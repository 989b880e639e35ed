-- The limits follow what came.
use Rattle.std.proofs.Common.{◌≡◌, ◌<◌, ◌≤◌, ◌+◌, ◌-◌, ◌/◌, ◌^◌, min, ℕ, suc, Bool, true, false, List, [], ◌∷◌, ◌++◌, refl, ap, ◌∙◌, sym, arith, ◌==◌, cond, if◌then◌else◌, All, get_or, zero-add, length-append}
use Rattle.std.specs.List.{count_by}
use Rattle.std.proofs.lemmas.Bool.{eq-eqb, ne_eqb, eqb-true, leb-true}
use Rattle.std.proofs.lemmas.List.Elements.{All-cons, All-nil}
use Rattle.std.proofs.lemmas.List.Sums.{sum_by_push}
use Rattle.ndn_log.specs.declared.limits.ShownLine.{ShownLine}
use Rattle.ndn_log.specs.declared.limits.TheConstants.{FACE_LINES}
use Rattle.ndn_log.specs.Limits.{LimitsState, Notice, at_most, begun, has_room, has_share, is_at, is_full, is_in, is_of, is_shown, leave, left_among, left_of, limits_after, notice_of, others_among, second_of, shown_among}
use Rattle.ndn_log.specs.LimitLaws.{Follows}
use Rattle.ndn_log.proofs.Leaving.{count_leave, left_other, left_own, left_push, length_leave}
use Rattle.ndn_log.proofs.Sharing.{all_told, count_more}

at_own : (second face other : ℕ) → is_at second other (record { second = second; face = face }) ≡ (face == other)
at_own second face other = let own = eq-eqb second second refl in rw own refl

in_own : (second face : ℕ) → is_in second (record { second = second; face = face }) ≡ true
in_own second face = eq-eqb second second refl

-- one more is counted
one_more : (old count most : ℕ) → old ≡ min count most → min (old + 1) most ≡ min (1 + count) most
one_more old count most e = rw e (omega arith)

left_step : (s face g : ℕ) (shown : List ShownLine) (left : List Notice) (t : Bool) → (face == g) ≡ t
    → 0 < count_by (is_of face) shown → left_of g shown ≡ at_most (count_by (is_at s g) left)
    → left_of g (leave face shown) ≡ at_most (cond t 1 0 + count_by (is_at s g) left)
left_step s face g shown left true e some h =
    let same = eqb-true face g e in
    ap (λ k. left_of k (leave face shown)) (sym same) ∙ (left_own face shown some ∙ (ap (λ k. at_most (left_of k shown + 1)) same
    ∙ one_more (left_of g shown) (count_by (is_at s g) left) (2 ^ 64 - 1) h))
left_step s face g shown left false e some h = left_other face g shown e ∙ (h ∙ ap at_most (sym (zero-add _)))

-- the limits after one more line
step : Bool → Bool → LimitsState → ℕ → LimitsState
step a b limits face =
    if a then record limits { shown = leave face limits.shown } else (
    if b then record limits { others = at_most (limits.others + 1) }
    else record limits { shown = limits.shown ++ (record { face = face; left = 0 } ∷ []) })

follows_step : (came : List Notice) (limits : LimitsState) (face : ℕ) (a b : Bool) → Follows came limits
    → has_share (record { second = limits.second; face = face }) (shown_among came) ≡ a
    → is_full (record { second = limits.second; face = face }) (shown_among came) ≡ b
    → Follows (record { second = limits.second; face = face } ∷ came) (step a b limits face)
unfolding step
follows_step came limits face true b f ea eb =
    let s = limits.second in
    let n : Notice = record { second = s; face = face } in
    let enough = leb-true FACE_LINES (count_by (is_at s face) (shown_among came)) ea in
    record {
      latest = All-cons (λ notice. notice.second ≤ s) n came (omega arith) f.latest;
      faces = λ g. rw ea (count_leave face g limits.shown ∙ f.faces g);
      all = rw ea (length_leave face limits.shown ∙ f.all);
      left = λ g. rw (ea, count_more (is_at s g) n (left_among came), at_own s face g) (left_step s face g limits.shown (left_among came) (face == g) refl (omega (arith, f.faces face, enough)) (f.left g));
      others = rw ea f.others;
    }
follows_step came limits face false true f ea eb =
    let s = limits.second in
    let n : Notice = record { second = s; face = face } in
    record {
      latest = All-cons (λ notice. notice.second ≤ s) n came (omega arith) f.latest;
      faces = λ g. rw (ea, eb) (f.faces g);
      all = rw (ea, eb) f.all;
      left = λ g. rw ea (f.left g);
      others = rw (ea, eb, count_more (is_in s) n (others_among came), in_own s face) (one_more limits.others (count_by (is_in s) (others_among came)) (2 ^ 64 - 1) f.others);
    }
follows_step came limits face false false f ea eb =
    let s = limits.second in
    let n : Notice = record { second = s; face = face } in
    let line : ShownLine = record { face = face; left = 0 } in
    record {
      latest = All-cons (λ notice. notice.second ≤ s) n came (omega arith) f.latest;
      faces = λ g. rw (ea, eb, count_more (is_at s g) n (shown_among came), at_own s face g, sum_by_push (λ x. cond (is_of g x) 1 0) limits.shown line) (omega (arith, f.faces g));
      all = rw (ea, eb, count_more (is_in s) n (shown_among came), in_own s face) (omega (arith, length-append limits.shown (line ∷ []), f.all));
      left = λ g. rw ea (left_push face g limits.shown ∙ f.left g);
      others = rw (ea, eb) f.others;
    }

-- the limits after one more line in the same second are those of `step`
step_is_after : (came : List Notice) (limits : LimitsState) (moment face : ℕ) → Follows came limits
    → second_of moment ≡ limits.second
    → limits_after limits moment face ≡ step (has_share (record { second = limits.second; face = face }) (shown_among came)) (is_full (record { second = limits.second; face = face }) (shown_among came)) limits face
unfolding step
step_is_after came limits moment face f e =
    rw (eq-eqb (moment / 1000) limits.second e, f.faces face, f.all) refl

pub follows_more : (came : List Notice) (limits : LimitsState) (moment face : ℕ) → Follows came limits
    → second_of moment ≡ limits.second → Follows (notice_of moment face ∷ came) (limits_after limits moment face)
follows_more came limits moment face f e =
    rw (step_is_after came limits moment face f e, e) (follows_step came limits face _ _ f refl refl)

pub shows_as_said : (came : List Notice) (limits : LimitsState) (moment face : ℕ) → Follows came limits
    → second_of moment ≡ limits.second → is_shown limits moment face ≡ has_room (notice_of moment face) (shown_among came)
shows_as_said came limits moment face f e =
    rw (eq-eqb (moment / 1000) limits.second e, f.faces face, f.all, e) refl

none_pass : (p : Notice → Bool) (came : List Notice) → All (λ n. p n ≡ false) came → count_by p came ≡ 0
none_pass p [] fails = refl
none_pass p (n ∷ came) fails =
    let one : Bool → ℕ = λ b. cond b 1 0 in
    let here = ap one (fails 0 n (omega arith)) in
    let rest = none_pass p came (λ k d within. fails (suc k) d (omega arith)) in
    omega (arith, count_more p n came, here, rest)

not_at : (latest second face : ℕ) (n : Notice) → n.second ≤ latest → latest < second → is_at second face n ≡ false
not_at latest second face n before later = let differ = ne_eqb n.second second (λ same. omega arith) in rw differ refl

not_in : (latest second : ℕ) (n : Notice) → n.second ≤ latest → latest < second → is_in second n ≡ false
not_in latest second n before later = ne_eqb n.second second (λ same. omega arith)

pub follows_later : (came : List Notice) (limits : LimitsState) (moment : ℕ) → Follows came limits
    → limits.second < second_of moment → Follows came (begun moment)
follows_later came limits moment f later =
    let s = second_of moment in
    let at = λ (g : ℕ). none_pass (is_at s g) came (λ k d within. not_at limits.second s g (get_or came k d) (f.latest k d within) later) in
    let all = none_pass (is_in s) came (λ k d within. not_in limits.second s (get_or came k d) (f.latest k d within) later) in
    record {
      latest = λ k d within. omega (arith, f.latest k d within, later);
      faces = λ g. omega (arith, all_told (is_at s g) came, at g);
      all = omega (arith, all_told (is_in s) came, all);
      left = λ g. omega (arith, all_told (is_at s g) came, at g);
      others = omega (arith, all_told (is_in s) came, all);
    }

pub follows_first : Follows [] (begun 0)
follows_first = record {
  latest = All-nil (λ notice. notice.second ≤ 0);
  faces = λ g. refl;
  all = refl;
  left = λ g. refl;
  others = refl;
}
