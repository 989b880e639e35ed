use Rattle.std.proofs.Common.{refl, sym, subst, arith}
use Rattle.std.specs.Prelude.{slice_index}
use Rattle.ndn_packets.specs.HopLimit.{HasHopLimit}
use Rattle.ndn_packets.proofs.HopLimits.{hop_found, hop_only, hop_still}
use Rattle.ndn_packets.proofs.hop_limit.hop_limit_mut.Goals as goal

pub returns-then-place-octets : goal.returns-then-place-octets
returns-then-place-octets c =
    let text = c.args.octets.now in (
      refl,
      record {
        lends = tt;
        found = tt;
        only = λ limit h. (let small = hop_only text limit h in absurd (omega (arith, small, c.hop_place-place.ensures.exact, c.if-place-octets.true)));
        still = hop_still text;
      },
    )

pub returns : goal.returns
returns c =
    let text = c.args.octets.now in (
      rw c.hop_place-place.ensures.exact refl,
      record {
        lends = tt;
        found = subst (λ place. HasHopLimit text (slice_index text place)) (sym c.hop_place-place.ensures.exact)
            (hop_found text c.hop_place-place.ensures.octets (omega (arith, c.hop_place-place.ensures.exact, c.if-place-octets.false)));
        only = λ limit h. refl;
        still = hop_still text;
      },
    )
