-- The closings of faces after a restart.
use Rattle.std.proofs.Common.{◌≡◌, ℕ, zero, suc, List, [], ◌∷◌, ◌++◌, take, refl, sym, ap, ◌∙◌, append_assoc, append-nil}
use Rattle.std.specs.Prelude.{slice_get, Some}
use Rattle.forwarder.specs.Event.{PlainEvent}
use Rattle.forwarder.specs.OpenFaces.{FaceEntry}
use Rattle.ndn_daemon.specs.Restart.{closing, closings}

pub closings_next : (peers local now : ℕ) (faces : List FaceEntry) (i : ℕ)
    → closings peers local now (take (suc i) faces) ≡ closings peers local now (take i faces) ++ closing peers local now (slice_get faces i)
closings_next peers local now [] zero = refl
closings_next peers local now [] (suc i) = refl
closings_next peers local now (face ∷ faces) zero = append-nil (closing peers local now (Some face))
closings_next peers local now (face ∷ faces) (suc i) =
    ap (λ (t : List PlainEvent). closing peers local now (Some face) ++ t) (closings_next peers local now faces i)
    ∙ sym (append_assoc (closing peers local now (Some face)) (closings peers local now (take i faces)) (closing peers local now (slice_get faces i)))
