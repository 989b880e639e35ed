use Rattle.std.proofs.Common.{arith, sym, ◌∙◌}
use Rattle.std.proofs.lemmas.List.{length-map}
use Rattle.websocket_requests.specs.Origin.{is_origin}
use Rattle.ndn_daemon.proofs.Origins.{all-map, not_both}
use Rattle.ndn_daemon.proofs.udp_options.origins_of.Goals.{then-texts-gt-MAX_ORIGINS-via-then-texts-gt-MAX_ORIGINS, then-texts-gt-MAX_ORIGINS-via-else-texts-gt-MAX_ORIGINS+then-not-are_origins}
use Rattle.ndn_daemon.proofs.udp_options.origins_of.Goals as goal

pub returns-then-texts-gt-MAX_ORIGINS : goal.returns-then-texts-gt-MAX_ORIGINS
returns-then-texts-gt-MAX_ORIGINS c = λ x are. elim c.then-texts-gt-MAX_ORIGINS.branch [
  | then-texts-gt-MAX_ORIGINS-via-then-texts-gt-MAX_ORIGINS w ↦ absurd (omega (arith, w.if-texts-gt-MAX_ORIGINS.true, are.1, length-map c.args.texts.now (λ text. text.now)))
  | then-texts-gt-MAX_ORIGINS-via-else-texts-gt-MAX_ORIGINS+then-not-are_origins w ↦
      not_both (sym w.if-not-are_origins.true ∙ w.are_origins.ensures ∙ all-map is_origin (λ text. text.now) c.args.texts.now ∙ are.2)
]

pub returns : goal.returns
returns c = (
  c.in_ok-copied.ensures,
  omega (arith, c.if-texts-gt-MAX_ORIGINS.false, length-map c.args.texts.now (λ text. text.now)),
  sym (all-map is_origin (λ text. text.now) c.args.texts.now) ∙ sym c.are_origins.ensures ∙ c.if-not-are_origins.false,
)
