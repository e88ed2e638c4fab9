-- A call comes to wait for nobody, or for its update alone, at a member that holds it.
use Rattle.std.proofs.Common.{ℕ, ◌≡◌, ◌⊎◌, inl, inr, Bool, true, false, List, ◌++◌, Option, Some, None, refl, sym, ap, subst, ◌∙◌}
use Rattle.group_types.specs.Dimensions.{Dimensions}
use Rattle.group_types.specs.Hash.{home_of}
use Rattle.group_types.specs.Names.{IsProcess}
use Rattle.group_types.specs.declared.process.ProcessId.{ProcessId}
use Rattle.memc_table.specs.Act.{key_of}
use Rattle.memc_table.specs.Asked.{Asked}
use Rattle.group_wire.specs.Actions.{Action, GiveUp}
use Rattle.group_wire.specs.Composed.{AreActions, Composed, composed}
use Rattle.group_wire.specs.GoingOn.{CanBe}
use Rattle.group_wire.specs.May.{awaited_member, call_waits_for}
use Rattle.group_wire.specs.Serving.{gateways_after, if_open, stage_given_up, staged}
use Rattle.group_wire.specs.Sets.{Processes}
use Rattle.group_wire.specs.State.{Request, AskFor, TraceOf, Stage, Unasked, AskedOf, Unknown, TracedAt, Answered, OpenCall, gateway_of}
use Rattle.group_wire.proofs.Changes.{changed_at-here}
use Rattle.group_wire.proofs.GoingOn.{IsOther, uncut}
use Rattle.group_wire.proofs.Reaching.{can-be, reaches-here}
use Rattle.wire_progress.proofs.Draining.{Anyhow}
use Rattle.wire_progress.proofs.Ends.{AwaitsUpdate, Freed}
use Rattle.wire_progress.proofs.Serving.{Between, CanServe, SettlesTo, acts, few, going, serves-still, settles-to}
use Rattle.wire_progress.proofs.Settling.{IsOpenFor}
use Rattle.wire_progress.proofs.Stages.{IsFree, given-up-free}
use Rattle.wire_progress.proofs.Unlost.{unlost}
use Rattle.wire_progress.proofs.Waits.{Answering, CallAwaited, Coming, Holding, Holds, IsAwaited, IsHeld, Kept, Parted, Waits, answer_to, caller_of, view}

abbrev pub Resolved : Dimensions → Processes → ℕ → Asked → Composed → Type 0
Resolved s named caller op c = AwaitsUpdate s named caller op c ⊎ Freed named caller op c

one-of : {x y : ProcessId} → Some x ≡ Some y → y ≡ x
one-of {x} same = sym (ap (λ (o : Option ProcessId). elim o [ None ↦ x | Some z ↦ z ]) same)

module _ (s : Dimensions) (named : Processes) (caller : ℕ) (out : named (gateway_of s caller) ≡ false) where
  module _ (actions : List Action) (run : AreActions s actions) (serves : CanServe named caller (composed s actions).group) where
    -- where nothing stands between a gateway and a member, it waits for a held call alone
    only-held : (x : ProcessId) → IsOther s named x → Between (gateway_of s caller) x (composed s actions).group.gateways
        → (r : Request) → caller_of r ≡ caller → Waits s (view (composed s actions).group) x r → IsHeld s ((composed s actions).group.works.process x) r
    only-held x xin between r its (Holding held) = held
    only-held x xin between r its (Parted (inl cut)) =
        cc (
          ap (λ (n : ℕ). (composed s actions).group.words.cut (gateway_of s n) x) (sym its) ∙ cut,
          uncut s named (few s named caller out actions run serves) (composed s actions).group
              (going s named caller out actions run serves) (gateway_of s caller) x xin.1,
        )
    only-held x xin between r its (Parted (inr cut)) =
        cc (
          ap (λ (n : ℕ). (composed s actions).group.words.cut x (gateway_of s n)) (sym its) ∙ cut,
          uncut s named (few s named caller out actions run serves) (composed s actions).group
              (going s named caller out actions run serves) x (gateway_of s caller) out,
        )
    only-held x xin between r its (Coming there) =
        absurd (subst (Holds r) between.2 (subst (λ (n : ℕ). Holds r ((composed s actions).group.gateways.requests (gateway_of s n) x)) its there))
    only-held x xin between r its (Kept there) = absurd (subst (Holds r) between.1 there)
    only-held x xin between r its (Answering a there) =
        absurd (subst (Holds (answer_to r a)) between.0
        (subst (λ (n : ℕ). Holds (answer_to r a) ((composed s actions).group.gateways.answers x (gateway_of s n)))
        its there))

    pub awaited : (o : OpenCall) → (composed s actions).group.gateways.call caller ≡ Some o → (stage : Stage)
        → o.stage ≡ stage → IsAwaited s (view (composed s actions).group) caller o.position o.op stage
    awaited o call stage is = subst (IsAwaited s (view (composed s actions).group) caller o.position o.op) is
        (subst (CallAwaited s (view (composed s actions).group) caller) call (unlost s actions run caller))

    -- so a call that waits for nobody else is resolved
    settled : (op : Asked) (x : ProcessId) → IsOther s named x
        → Between (gateway_of s caller) x (composed s actions).group.gateways
        → IsOpenFor caller op x (composed s actions).group.gateways
        → Resolved s named caller op (composed s actions)
    settled op x xin between (o, call, same_op, waits) = by o.stage refl where
      free : IsFree o.stage → Resolved s named caller op (composed s actions)
      free is = inr (record { serves = serves; call = o; open_call = call; same_op = same_op; free = is })

      by : (stage : Stage) → o.stage ≡ stage → Resolved s named caller op (composed s actions)
      by Unasked is = free (ap awaited_member is)
      by Unknown is = free (ap awaited_member is)
      by (Answered t n) is = free (ap awaited_member is)
      by (AskedOf z) is = inl (record {
        serves = serves;
        call = o;
        open_call = call;
        same_op = same_op;
        holder = x;
        other = xin;
        stage = is ∙ ap AskedOf at;
        held = only-held x xin between (AskFor caller o.position o.op) refl
            (subst (λ (y : ProcessId). Waits s (view (composed s actions).group) y (AskFor caller o.position o.op)) at
            (awaited o call (AskedOf z) is).1);
        between = between;
      }) where
        at : z ≡ x
        at = waits z (ap awaited_member is)
      by (TracedAt z) is = absurd (only-held x xin between (TraceOf caller o.position (home_of (key_of o.op.act) s.k)) refl
          (subst (λ (y : ProcessId). Waits s (view (composed s actions).group) y
          (TraceOf caller o.position (home_of (key_of o.op.act) s.k))) (waits z (ap awaited_member is))
          (awaited o call (TracedAt z) is).1))

    -- one that waits for a named member is given up
    gives-up : (o : OpenCall) (x : ProcessId) → (composed s actions).group.gateways.call caller ≡ Some o
        → awaited_member o.stage ≡ Some x → IsProcess s x → named x ≡ true → CanBe s actions (Resolved s named caller o.op)
    gives-up o x call waits member inside = acts s named caller out actions run serves (GiveUp caller) (Resolved s named caller o.op) tt (
      serves.mine,
      record {
        member = x;
        waits = ap call_waits_for call ∙ waits;
        taken = serves.taken (gateway_of (composed s actions).group.shape caller) x serves.mine.gateway.member
            (subst (λ (t : Dimensions). named (gateway_of t caller) ≡ false)
            (sym (going s named caller out actions run serves).shape) out)
            (subst (λ (t : Dimensions). IsProcess t x) (sym (going s named caller out actions run serves).shape) member) inside;
      },
    )
        (inr (record {
          serves = serves-still named caller (composed s actions).group (composed s actions).group.works
              (gateways_after (composed s actions).group (GiveUp caller)) serves;
          call = record o { stage = stage_given_up o.op o.stage };
          open_call = after;
          same_op = refl;
          free = given-up-free o.op o.stage;
        }))
      where
        after : (gateways_after (composed s actions).group (GiveUp caller)).call caller ≡ Some (record o { stage = stage_given_up o.op o.stage })
        after = subst
            (λ (open_call : Option OpenCall).
            (if_open open_call (composed s actions).group.gateways
            (λ o. staged caller o (stage_given_up o.op o.stage) (composed s actions).group.gateways)).call caller
            ≡ Some (record o { stage = stage_given_up o.op o.stage })) (sym call)
            (changed_at-here (composed s actions).group.gateways.call caller (Some (record o { stage = stage_given_up o.op o.stage })))

  pub resolves : (actions : List Action) (run : AreActions s actions) → CanServe named caller (composed s actions).group
      → (o : OpenCall) → (composed s actions).group.gateways.call caller ≡ Some o
      → CanBe s actions (Resolved s named caller o.op)
  resolves actions run serves o call = by o.stage refl where
    free : IsFree o.stage → CanBe s actions (Resolved s named caller o.op)
    free is = can-be Anyhow (Resolved s named caller o.op) s actions run
        (reaches-here Anyhow (composed s actions) (Resolved s named caller o.op) tt
        (inr (record { serves = serves; call = o; open_call = call; same_op = refl; free = is })))

    waiting : (x : ProcessId) → awaited_member o.stage ≡ Some x → IsProcess s x → CanBe s actions (Resolved s named caller o.op)
    waiting x waits member = which (named x) refl where
      which : (b : Bool) → named x ≡ b → CanBe s actions (Resolved s named caller o.op)
      which true inside = gives-up actions run serves o x call waits member inside
      which false away = then_settled (settles-to s named caller out actions run serves o.op x (member, away)) where
        then_settled : CanBe s actions (SettlesTo s named caller o.op x (composed s actions)) → CanBe s actions (Resolved s named caller o.op)
        then_settled r = (
          r.0,
          r.1,
          settled (actions ++ r.0) r.1 r.2.serves o.op x (member, away) r.2.between
              (r.2.settles.open_for (o, call, refl, λ y is. one-of (sym waits ∙ is))),
          r.3,
        )

    by : (stage : Stage) → o.stage ≡ stage → CanBe s actions (Resolved s named caller o.op)
    by Unasked is = free (ap awaited_member is)
    by Unknown is = free (ap awaited_member is)
    by (Answered t n) is = free (ap awaited_member is)
    by (AskedOf x) is = waiting x (ap awaited_member is) (awaited actions run serves o call (AskedOf x) is).0
    by (TracedAt x) is = waiting x (ap awaited_member is) (awaited actions run serves o call (TracedAt x) is).0
