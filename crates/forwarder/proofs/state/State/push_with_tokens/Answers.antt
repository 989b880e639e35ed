use Rattle.std.proofs.Common.{◌≡◌, ℕ, ◌+◌, ◌*◌, ◌≤◌, List, [], ◌∷◌, ◌++◌, drop, length, refl, sym, ap, ◌∙◌, arith, append_assoc, append-nil}
use Rattle.std.proofs.Math.Nat.{add-mul, mul-le-mul_right}
use Rattle.std.proofs.lemmas.List.{drop_all, map-append}
use Rattle.std.proofs.lemmas.List.Elements.{All-append, All-cons, All-nil}
use Rattle.sha2.specs.Sha256.{sha256}
use Rattle.ndn_names.specs.View.{components}
use Rattle.ndn_packets.specs.Link.{IsToken}
use Rattle.pit_fib.specs.Records.{records_at}
use Rattle.pit_fib.specs.Tokens.{IsTokenFor}
use Rattle.strategies.proofs.Places.{drop_here, drop_past}
use Rattle.forwarder.specs.Event.{Send, Token, sent_back}
use Rattle.forwarder.specs.Handling.{token_of}
use Rattle.forwarder.specs.Replies.{Askers, faces_of, sent_to}
use Rattle.forwarder.specs.declared.sends.TheConstants.{LINK_EXTRA}
use Rattle.forwarder.proofs.Tokens.{token_there}
use Rattle.forwarder.proofs.state.State.push_with_tokens.Goals as goal
use Rattle.forwarder.proofs.state.State.push_with_tokens.Goals.{in-Some+in_ok-push_back, in_default}

one_more : (i k : ℕ) → (i + 1) * k ≡ i * k + k
one_more i k = omega (arith, add-mul i 1 k)

faces_more : (some : Askers) (face : ℕ) (token : Token) → faces_of (some ++ (face, token) ∷ []) ≡ faces_of some ++ face ∷ []
faces_more some face token = map-append (λ (a : ℕ × Token). a.0) some ((face, token) ∷ [])

sent_more : (some : Askers) (face : ℕ) (token : Token) (whole : List ℕ) → sent_to (some ++ (face, token) ∷ []) whole ≡ sent_to some whole ++ sent_back face token whole ∷ []
sent_more some face token whole = map-append {A = ℕ × Token} {B = Send} (λ a. sent_back a.0 a.1 whole) some ((face, token) ∷ [])

pub loop-i-init : goal.loop-i-init
loop-i-init c = record {
  sends = ([], refl, All-nil _, sym (append-nil c.args.out.now.sends));
  places = omega (arith, c.requires.places);
  space = omega (arith, c.requires.space);
}

pub push_back-requires : goal.push_back-requires
push_back-requires c = token_there IsToken c.token_for-token.result c.token_for-token.ensures.sizes

-- memory does not run out, because the reserved memory is enough for one more send
refused_never : goal.After-from_residual → ⊥
refused_never c =
    let k = length c.args.packet.now.whole.now + LINK_EXTRA in
    let fits : (c.loop-i.i + 1) * k ≤ 64 * k = mul-le-mul_right k (omega (arith, c.loop-i-test.true, c.len-i-end.ensures.small)) in
    let done = c.in_err-push_back.ensures.promised
    (omega (arith, c.loop-i.invariant.places, c.loop-i-test.true, c.len-i-end.ensures.small))
    (omega (arith, c.loop-i.invariant.space, one_more c.loop-i.i k, fits)) in
    cc done

pub returns-in_err-push_back-clause-ok : goal.returns-in_err-push_back-clause-ok
returns-in_err-push_back-clause-ok c = absurd (refused_never c)

pub returns-in_err-push_back-clause-sends : goal.returns-in_err-push_back-clause-sends
returns-in_err-push_back-clause-sends c = absurd (refused_never c)

pub loop-i-preserved : goal.loop-i-preserved
loop-i-preserved c =
    let whole = c.args.packet.now.whole.now in
    let faces = c.args.faces.now in
    let k = length whole + LINK_EXTRA in
    let some = c.loop-i.invariant.sends.0 in
    let are = c.loop-i.invariant.sends.1 in
    let tokens = c.loop-i.invariant.sends.2 in
    let sent = c.loop-i.invariant.sends.3 in
    let P : ℕ × Token → Type 0 = λ a. IsTokenFor (records_at c.args.self.now.pit.pending) (components c.args.packet.now.name) (sha256 whole) a.0 a.1 in
    elim c.match-get.branch [
      | in-Some+in_ok-push_back w ↦
          let face = w.in-Some.face in
          let token = token_of w.token_for-token.result in
          let more = (face, token) ∷ [] in
          rw w.out-is (record {
            sends = (
              some ++ more,
              are ∙ ap (λ (rest : List ℕ). faces_of some ++ rest) (drop_here faces c.loop-i.i face (sym c.get.ensures ∙ w.in-Some.is))
                  ∙ sym (append_assoc (faces_of some) (face ∷ []) (drop (c.loop-i.i + 1) faces))
                  ∙ ap (λ (before : List ℕ). before ++ drop (c.loop-i.i + 1) faces) (sym (faces_more some face token)),
              All-append P some more tokens (All-cons P (face, token) [] w.token_for-token.ensures.token (All-nil P)),
              w.in_ok-push_back.ensures.ok ∙ ap (λ (before : List Send). before ++ sent_back face token whole ∷ []) sent
                  ∙ append_assoc c.args.out.now.sends (sent_to some whole) (sent_back face token whole ∷ [])
                  ∙ ap (λ (all : List Send). c.args.out.now.sends ++ all) (sym (sent_more some face token whole)),
            );
            places = omega (arith, c.loop-i.invariant.places, w.push_back.ensures.room);
            space = omega (arith, c.loop-i.invariant.space, one_more c.loop-i.i k, w.push_back.ensures.space);
          })
      | in_default w ↦
          rw w.out-is (record {
            sends = (some, are ∙ ap (λ (rest : List ℕ). faces_of some ++ rest) (drop_past faces c.loop-i.i (sym c.get.ensures ∙ w.in_default.is)), tokens, sent);
            places = omega (arith, c.loop-i.invariant.places);
            space = omega (arith, c.loop-i.invariant.space, one_more c.loop-i.i k);
          })
    ]

pub returns-clause-sends : goal.returns-clause-sends
returns-clause-sends c =
    let faces = c.args.faces.now in
    let some = c.loop-i.invariant.sends.0 in
    let end = drop_all c.loop-i.i faces (omega (arith, c.loop-i-test.false, c.len-i-end.ensures.exact)) in (
      some,
      sym (c.loop-i.invariant.sends.1 ∙ ap (λ (rest : List ℕ). faces_of some ++ rest) end ∙ append-nil (faces_of some)),
      c.loop-i.invariant.sends.2,
      c.loop-i.invariant.sends.3,
    )
