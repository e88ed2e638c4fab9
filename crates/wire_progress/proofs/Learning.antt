-- A gateway learns the only answer of a wire.
use Rattle.std.proofs.Common.{ℕ, ◌≡◌, Bool, false, List, [], ◌∷◌, Option, Some, refl, sym, ap, subst, ◌∙◌}
use Rattle.std.proofs.lemmas.Bool.{eq-eqb}
use Rattle.group_types.specs.Dimensions.{Dimensions}
use Rattle.group_types.specs.declared.process.ProcessId.{ProcessId}
use Rattle.group_run.specs.World.{World}
use Rattle.group_wire.specs.Actions.{Action, Learn}
use Rattle.group_wire.specs.Composed.{AreActions, Composed, composed}
use Rattle.group_wire.specs.Composition.{machine}
use Rattle.group_wire.specs.GoingOn.{CanBe}
use Rattle.group_wire.specs.Serving.{call_learned, gateways_after, learned_first, stage_learned, stage_told}
use Rattle.group_wire.specs.Sets.{Processes, one_or}
use Rattle.group_wire.specs.State.{Request, Told, Stage, OpenCall, Gateways, gateway_of}
use Rattle.group_wire.proofs.AtOnce.{may-read, pair-here}
use Rattle.group_wire.proofs.Changes.{changed_at-here}
use Rattle.group_wire.proofs.GoingOn.{IsOther}
use Rattle.wire_progress.proofs.Making.{makes-none}
use Rattle.wire_progress.proofs.Serving.{CanServe, acts, few, gateway-other, going, serves-still}

-- a caller's call, and what stands between its gateway and a member
pub record Loaded (s : Dimensions) (named : Processes) (caller : ℕ) (o : OpenCall) (x : ProcessId)
    (requests parked : List Request) (answers : List Told) (c : Composed) : Type 0 where
  pub serves : CanServe named caller c.group
  pub open_call : c.group.gateways.call caller ≡ Some o
  pub asked : c.group.gateways.requests (gateway_of s caller) x ≡ requests
  pub kept : c.group.gateways.parked x ≡ parked
  pub told : c.group.gateways.answers x (gateway_of s caller) ≡ answers

-- what it was told is its stage, and the machine is as it was
pub record Learned (s : Dimensions) (named : Processes) (caller : ℕ) (o : OpenCall) (x : ProcessId) (t : Told) (w : World) (c : Composed) : Type 0 where
  pub pinged : ℕ
  pub world : machine c ≡ w
  pub loaded : Loaded s named caller (record o { stage = stage_told t pinged t.answer t.traced }) x [] [] [] c

module _ (s : Dimensions) (named : Processes) (caller : ℕ) (out : named (gateway_of s caller) ≡ false)
    (actions : List Action) (run : AreActions s actions) (o : OpenCall) (x : ProcessId) (xin : IsOther s named x)
    (t : Told)
    (loaded : Loaded s named caller o x [] [] (t ∷ []) (composed s actions)) (its : t.caller ≡ caller)
    (at : o.position ≡ t.call) (waits : (n : ℕ) → stage_learned t n o.stage ≡ stage_told t n t.answer t.traced) where
  abbrev pinged : ℕ
  pinged = (composed s actions).group.signs.pinged (gateway_of s caller)

  abbrev Is : Gateways → Type 0
  Is gw = (gw.call caller ≡ Some (record o { stage = stage_told t pinged t.answer t.traced }))
      × (gw.requests (gateway_of s caller) x ≡ []) × (gw.parked x ≡ []) × (gw.answers x (gateway_of s caller) ≡ [])

  now : (learned_first x (gateway_of s caller) pinged (t ∷ []) (composed s actions).group.gateways).call caller
      ≡ Some (record o { stage = stage_told t pinged t.answer t.traced })
  now =
      subst (λ (n : ℕ). (learned_first x (gateway_of s caller) pinged (t ∷ []) (composed s actions).group.gateways).call
      n ≡ call_learned t pinged ((composed s actions).group.gateways.call n)) its
      (changed_at-here (composed s actions).group.gateways.call t.caller (call_learned t pinged ((composed s actions).group.gateways.call t.caller)))
      ∙ ap (λ (open_call : Option OpenCall). call_learned t pinged open_call) loaded.open_call
      ∙ ap (λ (b : Bool). Some (record o { stage = one_or b (stage_learned t pinged o.stage) o.stage })) (eq-eqb o.position t.call at)
      ∙ ap (λ (stage : Stage). Some (record o { stage = stage })) (waits pinged)

  after : Is (gateways_after (composed s actions).group (Learn x (gateway_of s caller)))
  after = subst (λ (ts : List Told). Is (learned_first x (gateway_of s caller) pinged ts (composed s actions).group.gateways)) (sym loaded.told)
      (now, loaded.asked, loaded.kept, pair-here (composed s actions).group.gateways.answers x (gateway_of s caller) [])

  pub learns : CanBe s actions (Learned s named caller o x t (machine (composed s actions)))
  learns = acts s named caller out actions run loaded.serves (Learn x (gateway_of s caller)) (Learned s named caller o x t (machine (composed s actions))) tt
      (may-read s named (few s named caller out actions run loaded.serves) (composed s actions)
      (going s named caller out actions run loaded.serves) x (gateway_of s caller) xin
      (gateway-other s named caller out actions run loaded.serves))
      (record {
        pinged = pinged;
        world = makes-none (composed s actions) (Learn x (gateway_of s caller)) refl;
        loaded = record {
          serves = serves-still named caller (composed s actions).group (composed s actions).group.works
              (gateways_after (composed s actions).group (Learn x (gateway_of s caller))) loaded.serves;
          open_call = after.0;
          asked = after.1;
          kept = after.2;
          told = after.3;
        };
      })
