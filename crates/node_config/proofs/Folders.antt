-- The folder of a path.
use Rattle.std.proofs.Common.{◌≡◌, ◌≢◌, ℕ, ◌+◌, ◌<◌, List, [], length, take, drop, get_or, refl, sym, ◌∙◌, inl, inr, arith, take-append-drop, length-drop, add-one}
use Rattle.std.proofs.lemmas.List.{get_or_default, get_or-drop}
use Rattle.std.proofs.Math.Seq.{take-suc}
use Rattle.node_config.specs.Paths.{IsFolderOf}

-- a path without a slash has an empty folder
pub no_folder : (path : List ℕ) → ((i : ℕ) → i < length path → get_or path i 0 ≢ 47) → IsFolderOf path []
no_folder path none = (path, refl, λ i d inside e. none i inside (get_or_default path i 0 d inside ∙ e), inl refl)

-- a path has its folder up to its last slash
pub folder_to : (path : List ℕ) (k : ℕ) → k < length path → get_or path k 0 ≡ 47 → ((i : ℕ) → k < i → i < length path → get_or path i 0 ≢ 47) → IsFolderOf path (take (k + 1) path)
folder_to path k inside slash last =
    let few = length-drop (k + 1) path in (
      drop (k + 1) path,
      sym (take-append-drop (k + 1) path),
      (λ i d less e.
          let here : k + 1 + i < length path = omega (arith, few, less) in
          last (k + 1 + i) (omega arith) here (get_or_default path (k + 1 + i) 0 d here ∙ sym (get_or-drop (k + 1) path i d) ∙ e)),
      inr (take k path, rw (add-one, take-suc path k 0 inside, slash) refl),
    )
