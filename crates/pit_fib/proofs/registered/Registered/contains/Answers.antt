use Rattle.std.proofs.Common.{◌≡◌, get_or, refl, sym, ap, ◌∙◌}
use Rattle.std.proofs.lemmas.List.{get_or_default}
use Rattle.std.specs.Prelude.{Ok, Err, is_ok, is_some}
use Rattle.std.specs.FinMap.{find, get-entries}
use Rattle.pit_fib.specs.Route.{route_cmp}
use Rattle.pit_fib.proofs.Routes.{no_row}
use Rattle.pit_fib.proofs.registered.Registered.contains.Goals as goal

pub returns : goal.returns
returns c =
    let rows = c.rows.result.now in
    let there : is_ok c.place_of.result ≡ is_some (find route_cmp c.args.key rows) =
    elim c.place_of.result as (λ r. c.place_of.result ≡ r → is_ok r ≡ is_some (find route_cmp c.args.key rows)) [
      | (Ok at) ↦ λ e. (
          let found = rw e at c.place_of.ensures.found in
          sym (ap is_some (found.2 (get_or rows at no_row) (get_or_default rows at no_row (get_or rows at no_row) found.0)))
          )
      | (Err at) ↦ λ e. (let absent = rw e at c.place_of.ensures.absent in sym (ap is_some absent.2))
    ] refl in
    c.is_ok.ensures.value ∙ there ∙ ap (λ l. is_some (find route_cmp c.args.key l)) c.rows.ensures.rows ∙ sym (ap is_some (get-entries c.args.self.now c.args.key))
