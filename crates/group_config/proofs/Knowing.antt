-- Which keys a table has.
use Rattle.std.proofs.Common.{◌≡◌, Bool, true, ◌&&◌, ◌||◌, List, ℕ, [], ◌∷◌, map, String, Global, string_bytes, refl, sym, ap, ◌∙◌}
use Rattle.std.specs.List.{list_any}
use Rattle.std.specs.Str.{bytes_eq}
use Rattle.toml.specs.View.{members_view}
use Rattle.toml.specs.declared.value.Value.{Value}
use Rattle.group_config.specs.Keys.{all_among}

-- a test of what is behind references
pub any-behind : {X Y : Type 0} (f : X → Y) (p : Y → Bool) (xs : List X) → list_any (λ x. p (f x)) xs ≡ list_any p (map f xs)
any-behind f p [] = refl
any-behind f p (x ∷ xs) = ap (λ (b : Bool). p (f x) || b) (any-behind f p xs)

-- every key of a list is one of these
abbrev pub each_among : List (List ℕ) → List (String Global) → Bool
each_among keys [] = true
each_among keys (k ∷ ks) = list_any (λ known. bytes_eq known (string_bytes k)) keys && each_among keys ks

pub each_among-members : (keys : List (List ℕ)) (es : List (String Global × Value)) → each_among keys (map (λ e. e.0) es) ≡ all_among keys (members_view es)
each_among-members keys [] = refl
each_among-members keys (e ∷ es) = ap (λ (b : Bool). list_any (λ known. bytes_eq known (string_bytes e.0)) keys && b) (each_among-members keys es)

-- one more key
pub each_among-next : (keys : List (List ℕ)) (ks rest : List (String Global)) (k : String Global) (key : List ℕ)
    (known : Bool) → ks ≡ k ∷ rest → key ≡ string_bytes k → known ≡ list_any (λ k. bytes_eq k key) keys
    → each_among keys ks ≡ (known && each_among keys rest)
each_among-next keys ks rest k key known next same found =
    ap (each_among keys) next ∙ ap (λ (b : Bool). b && each_among keys rest) (sym (found ∙ ap (λ (bs : List ℕ). list_any (λ k. bytes_eq k bs) keys) same))
