-- The calls of the acts that requests ask, as some begin and others end.
use Rattle.std.proofs.Common.{◌≡◌, ◌≢◌, ℕ, zero, suc, List, [], ◌∷◌, ◌++◌, All, drop, take, length, arith, refl, sym, ap, ◌∙◌, subst, Option, inl, inr}
use Rattle.std.proofs.lemmas.List.Elements.{All-nil, All-cons, All-append}
use Rattle.memc_table.specs.Asked.{Asked}
use Rattle.memc_table.specs.declared.act.Act.{Act}
use Rattle.memc_proto.specs.declared.end.CallEnd.{CallEnd}
use Rattle.front_end.specs.Gateway.{Rules}
use Rattle.front_end.specs.Order.{IsOrder}
use Rattle.front_end.specs.Sequences.{sequence_of}
use Rattle.front_end.specs.declared.overlap.Overlap.{Overlap}
use Rattle.ready_client.specs.Calling.{AreCalls, IsBegunAs, HasEndOf, BeganBehind, IsCalling, KeepsCalls}
use Rattle.ready_client.specs.declared.open_call.OpenCall.{OpenCall}
use Rattle.ready_client.specs.declared.open_call.OpenCall.TheVariants.{Open, Ended}
use Rattle.ready_client.proofs.Listing.{open-behind}

pub all-behind : {X : Type 0} (P : X → Type 0) (x : X) (xs : List X) → All P (x ∷ xs) → All P xs
all-behind P x xs all k d below = all (suc k) d (omega (arith, below))

pub all-first : {X : Type 0} (P : X → Type 0) (x : X) (xs : List X) → All P (x ∷ xs) → P x
all-first P x xs all = all 0 x (omega arith)

module _ {G K : Type 0} (rules : Rules G K) (order : IsOrder rules.later) (overlap : Overlap) (told : Option ℕ) where
  -- a call that ended, from where it began to where it left the gateway
  pub record HasMadeCall (ends : List ℕ → G) (now : G) (asked : Act) (end : CallEnd) : Type 0 where
    pub op : Asked
    pub began : G
    pub after : G
    pub begun : BeganBehind rules overlap told ends now asked op began
    pub made : rules.ways.made began op end after
    pub later : rules.later after now

  pub made-of : (ends : List ℕ → G) (then now : G) (asked : Act) (call : OpenCall K) (end : CallEnd)
      → IsCalling rules overlap told ends then asked call → HasEndOf rules then call end now → rules.later then now
      → HasMadeCall ends now asked end
  made-of ends then now asked (Open call) end is ended later = record {
    op = is.0;
    began = is.1;
    after = now;
    begun = record { act_is = is.2.act_is; moment = is.2.moment; later = is.2.later };
    made = ended is.0 is.1 is.3;
    later = order.same now;
  }
  made-of ends then now asked (Ended had) end is ended later = record {
    op = is.0;
    began = is.1;
    after = is.2;
    begun = record { act_is = is.3.act_is; moment = is.3.moment; later = is.3.later };
    made = subst (λ (e : CallEnd). rules.ways.made is.1 is.0 e is.2) ended.0 is.4;
    later = order.on is.2 then now is.5 later;
  }

  -- the sequence of a call is where it was, and the call stays so
  calling-on : (ends ends_now : List ℕ → G) (then now : G) (asked : Act) (call : OpenCall K)
      → ends_now (sequence_of overlap asked) ≡ ends (sequence_of overlap asked) → KeepsCalls rules (call ∷ []) then now
      → rules.later then now
      → IsCalling rules overlap told ends then asked call → IsCalling rules overlap told ends_now now asked call
  calling-on ends ends_now then now asked (Open call) same kept later is = (
    is.0,
    is.1,
    record {
      act_is = is.2.act_is;
      moment = is.2.moment;
      later = subst (λ (e : G). rules.later e is.1) (ap (λ (a : Act). ends (sequence_of overlap a)) is.2.act_is
          ∙ sym same ∙ sym (ap (λ (a : Act). ends_now (sequence_of overlap a)) is.2.act_is)) is.2.later;
    },
    kept call is.0 is.1 (inl refl) is.3,
  )
  calling-on ends ends_now then now asked (Ended end) same kept later is = (
    is.0,
    is.1,
    is.2,
    record {
      act_is = is.3.act_is;
      moment = is.3.moment;
      later = subst (λ (e : G). rules.later e is.1) (ap (λ (a : Act). ends (sequence_of overlap a)) is.3.act_is
          ∙ sym same ∙ sym (ap (λ (a : Act). ends_now (sequence_of overlap a)) is.3.act_is)) is.3.later;
    },
    is.4,
    order.on is.2 then now is.5 later,
  )

  kept-first : (then now : G) (call : OpenCall K) (calls : List (OpenCall K)) → KeepsCalls rules (call ∷ calls) then now → KeepsCalls rules (call ∷ []) then now
  kept-first then now (Open call) calls kept one op began (inl same) = kept one op began (inl same)
  kept-first then now (Open call) calls kept one op began (inr has) = absurd has
  kept-first then now (Ended end) calls kept one op began has = absurd has

  pub kept-behind : (then now : G) (call : OpenCall K) (calls : List (OpenCall K)) → KeepsCalls rules (call ∷ calls) then now → KeepsCalls rules calls then now
  kept-behind then now call calls kept one op began has = kept one op began (open-behind call calls one has)

  -- calls whose sequences stay where they were, as they stay themselves
  pub calls-on : (ends ends_now : List ℕ → G) (then now : G) (acts : List Act) (calls : List (OpenCall K))
      → All (λ other. ends_now (sequence_of overlap other) ≡ ends (sequence_of overlap other))
      (take (length calls) acts)
      → KeepsCalls rules calls then now → rules.later then now → AreCalls rules overlap told ends then acts calls
      → AreCalls rules overlap told ends_now now acts calls
  calls-on ends ends_now then now acts [] same kept later are = tt
  calls-on ends ends_now then now [] (call ∷ calls) same kept later are = absurd are
  calls-on ends ends_now then now (asked ∷ acts) (call ∷ calls) same kept later are = (
    calling-on ends ends_now then now asked call
        (all-first (λ other. ends_now (sequence_of overlap other) ≡ ends (sequence_of overlap other)) asked
        (take (length calls) acts) same) (kept-first then now call calls kept) later are.0,
    are.1,
    calls-on ends ends_now then now acts calls
        (all-behind (λ other. ends_now (sequence_of overlap other) ≡ ends (sequence_of overlap other)) asked
        (take (length calls) acts) same) (kept-behind then now call calls kept) later are.2,
  )

  -- the same where no sequence went on
  pub calls-stay : (ends : List ℕ → G) (then now : G) (acts : List Act) (calls : List (OpenCall K)) → KeepsCalls rules calls then now → rules.later then now
      → AreCalls rules overlap told ends then acts calls → AreCalls rules overlap told ends now acts calls
  calls-stay ends then now acts calls kept later are = calls-on ends ends then now acts calls (λ k d below. refl) kept later are

  -- the first ones are needed no more
  pub calls-drop : (ends : List ℕ → G) (now : G) (n : ℕ) (acts : List Act) (calls : List (OpenCall K))
      → AreCalls rules overlap told ends now acts calls → AreCalls rules overlap told ends now (drop n acts)
      (drop n calls)
  calls-drop ends now zero acts calls are = are
  calls-drop ends now (suc n) acts [] are = tt
  calls-drop ends now (suc n) [] (call ∷ calls) are = absurd are
  calls-drop ends now (suc n) (asked ∷ acts) (call ∷ calls) are = calls-drop ends now n acts calls are.2

  -- no act, and so no call
  pub calls-none : (ends : List ℕ → G) (now : G) (acts : List Act) (calls : List (OpenCall K)) → acts ≡ []
      → AreCalls rules overlap told ends now acts calls → calls ≡ []
  calls-none ends now acts [] none are = refl
  calls-none ends now [] (call ∷ calls) none are = absurd are
  calls-none ends now (asked ∷ acts) (call ∷ calls) none are = absurd (cc none)

  first-of : (n : ℕ) (before : List Act) (asked : Act) (behind : List Act) → length before ≡ n → take n (before ++ asked ∷ behind) ≡ before
  first-of n [] asked behind count = ap (λ (m : ℕ). take m (asked ∷ behind)) (sym count)
  first-of zero (one ∷ before) asked behind count = absurd (omega (arith, count))
  first-of (suc n) (one ∷ before) asked behind count = ap (λ (acts : List Act). one ∷ acts) (first-of n before asked behind (omega (arith, count)))

  next-of : (n : ℕ) (before : List Act) (asked : Act) (behind : List Act) → length before ≡ n → take (suc n) (before ++ asked ∷ behind) ≡ before ++ asked ∷ []
  next-of n [] asked behind count = ap (λ (m : ℕ). take (suc m) (asked ∷ behind)) (sym count)
  next-of zero (one ∷ before) asked behind count = absurd (omega (arith, count))
  next-of (suc n) (one ∷ before) asked behind count = ap (λ (acts : List Act). one ∷ acts) (next-of n before asked behind (omega (arith, count)))

  longer : (calls : List (OpenCall K)) (one : OpenCall K) → length (calls ++ one ∷ []) ≡ suc (length calls)
  longer [] one = refl
  longer (call ∷ calls) one = ap suc (longer calls one)

  -- a call was begun behind them, of a sequence of its own
  pub calls-more : (ends : List ℕ → G) (now : G) (asked : Act) (one : OpenCall K) (before behind : List Act)
      (calls : List (OpenCall K)) → length before ≡ length calls
      → All (λ other. sequence_of overlap other ≢ sequence_of overlap asked) before → IsCalling rules overlap told ends now asked one
      → AreCalls rules overlap told ends now (before ++ asked ∷ behind) calls
      → AreCalls rules overlap told ends now (before ++ asked ∷ behind) (calls ++ one ∷ [])
  calls-more ends now asked one [] behind [] count apart is are = (is, All-nil _, tt)
  calls-more ends now asked one [] behind (call ∷ calls) count apart is are = absurd (omega (arith, count))
  calls-more ends now asked one (other ∷ before) behind [] count apart is are = absurd (omega (arith, count))
  calls-more ends now asked one (other ∷ before) behind (call ∷ calls) count apart is are = (
    are.0,
    further,
    calls-more ends now asked one before behind calls shorter
        (all-behind (λ other. sequence_of overlap other ≢ sequence_of overlap asked) other before apart) is are.2,
  )
    where
      shorter : length before ≡ length calls
      shorter = omega (arith, count)

      elsewhere : Act → Type 0
      elsewhere act = sequence_of overlap act ≢ sequence_of overlap other

      own : elsewhere asked
      own same = all-first (λ other. sequence_of overlap other ≢ sequence_of overlap asked) other before apart (sym same)

      further : All elsewhere (take (length (calls ++ one ∷ [])) (before ++ asked ∷ behind))
      further = subst (λ (n : ℕ). All elsewhere (take n (before ++ asked ∷ behind))) (sym (longer calls one))
          (subst (All elsewhere) (sym (next-of (length calls) before asked behind shorter))
          (All-append elsewhere before (asked ∷ [])
          (subst (All elsewhere) (first-of (length calls) before asked behind shorter) are.1)
          (All-cons elsewhere asked [] own (All-nil elsewhere))))

  -- a call that was begun is one of its act
  pub calling-begun : (ends : List ℕ → G) (before now : G) (op : Asked) (one : OpenCall K)
      → BeganBehind rules overlap told ends now op.act op before → IsBegunAs rules before op one now
      → IsCalling rules overlap told ends now op.act one
  calling-begun ends before now op (Open call) is begun = (op, before, is, begun.1)
  calling-begun ends before now op (Ended end) is begun = (op, before, now, is, begun, order.same now)
