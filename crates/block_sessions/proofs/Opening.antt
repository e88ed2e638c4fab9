-- A session more.
use Rattle.std.proofs.Common.{◌≡◌, ℕ, ◌+◌, ◌<◌, ◌≤◌, List, [], ◌∷◌, ◌++◌, length, map, sym, ap, ap₂, ◌∙◌, add-one, subst, arith}
use Rattle.std.proofs.lemmas.List.{length_push, map_push}
use Rattle.std.proofs.lemmas.List.Elements.{All-push, All-weaker}
use Rattle.std.proofs.lemmas.List.Quantifiers.{all_pairs_push}
use Rattle.group_types.specs.Dimensions.{Dimensions}
use Rattle.page_map.specs.Pages.{PageContents}
use Rattle.group_run.specs.Process.{Gathering}
use Rattle.block_sessions.specs.declared.session.OpenSession.{OpenSession}
use Rattle.block_sessions.specs.Leading.{AreParts, leader_state_of, started}
use Rattle.block_sessions.specs.Opened.{IsSessionOf, blank_session, gathering_of}
use Rattle.block_sessions.specs.Rebuilt.{AreRebuilt, rebuilt_in}

module _ (s : Dimensions) (last : ℕ) (sessions : List OpenSession) (pages new : List PageContents) (g : OpenSession)
    (block : ℕ) (lost rows : List ℕ) (is : gathering_of g ≡ blank_session s (last + 1) block lost rows) where
  numbered : g.number ≡ last + 1
  numbered = ap (λ (x : Gathering). x.number) is

  pub parts_with : AreParts s sessions last pages → IsSessionOf s g → AreRebuilt s (length sessions + 1) new → AreParts s (sessions ++ g ∷ []) (last + 1) new
  parts_with parts sound rebuilt = record {
    opened = record {
      each = All-push (IsSessionOf s) sessions g parts.opened.each sound;
      rising = all_pairs_push (λ (x y : OpenSession). x.number < y.number) sessions g parts.opened.rising
          (λ k d less. omega (arith, parts.opened.numbered k d less, numbered));
      numbered = All-push (λ (x : OpenSession). x.number ≤ last + 1) sessions g
          (All-weaker (λ (x : OpenSession). x.number ≤ last) (λ (x : OpenSession). x.number ≤ last + 1)
          (λ x le. omega arith) sessions parts.opened.numbered) (omega (arith, numbered));
    };
    rebuilt = subst (λ n. AreRebuilt s n new) (sym (length_push sessions g)) rebuilt;
  }

  pub state_with : map rebuilt_in new ≡ map rebuilt_in pages → leader_state_of (sessions ++ g ∷ []) (last + 1) new
      ≡ started s block lost rows (leader_state_of sessions last pages)
  state_with same =
      ap₂ (λ gs blocks. record { sessions = gs; last_session = last + 1; rebuilt = blocks })
      (map_push gathering_of sessions g ∙ ap (λ x. map gathering_of sessions ++ x ∷ []) is) same
      ∙ ap (λ n. record {
        sessions = map gathering_of sessions ++ blank_session s n block lost rows ∷ [];
        last_session = n;
        rebuilt = map rebuilt_in pages;
      }) (add-one last)
