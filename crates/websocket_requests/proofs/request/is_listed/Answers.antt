use Rattle.std.proofs.Common.{◌≡◌, Bool, List, [], ◌∷◌, map, ◌||◌, refl, ap, ◌∙◌}
use Rattle.std.specs.List.{list_any}
use Rattle.websocket_requests.proofs.request.is_listed.Goals as goal

any-map : {X Y : Type 0} (p : Y → Bool) (f : X → Y) (xs : List X) → list_any (λ x. p (f x)) xs ≡ list_any p (map f xs)
any-map p f [] = refl
any-map p f (x ∷ xs) = ap (λ (b : Bool). p (f x) || b) (any-map p f xs)

pub returns : goal.returns
returns c = c.has_equal.ensures ∙ any-map _ _ c.args.origins.now
