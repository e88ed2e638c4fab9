-- What a mark makes of the copies.
use Rattle.std.proofs.Common.{◌≡◌, ℕ, ◌<◌, Bool, true, false, not, cond, if◌then◌else◌, List, [], ◌∷◌, find, get_or}
use Rattle.std.proofs.Common.{set, All, IfSome, IfNone, is_some, Option, Some, None, sym, ap, ◌∙◌, arith}
use Rattle.std.specs.List.{remove}
use Rattle.std.proofs.lemmas.List.Elements.{All-filter, All-map, All-head, All-tail}
use Rattle.group_types.specs.Dimensions.{Dimensions}
use Rattle.group_types.proofs.Lists.{length-put}
use Rattle.group_run.specs.Process.{Copy}
use Rattle.group_run.specs.Rows.{copy_in, is_copy, is_marked, marked}
use Rattle.row_copies.specs.Row.{CopyStandsAt, HaveOneEach, IsWholeCopy, kept_until, marking}
use Rattle.row_copies.proofs.Each.{each-filter, each-with, own_session, set_with, remove_without}

module _ (P : Copy → Type 0) (p : Copy → Bool) where
  picked : (b : Bool) (c : Copy) (o : Option Copy) → P c → IfSome o P → IfSome (cond b (Some c) o) P
  picked true c o one rest = one
  picked false c o one rest = rest

  -- what holds of all copies holds of the one that is found
  pub found_among : (cs : List Copy) → All P cs → IfSome (find p cs) P
  found_among [] all = tt
  found_among (c ∷ cs) all = picked (p c) c (find p cs) (All-head P c cs all) (found_among cs (All-tail P c cs all))

module _ (s : Dimensions) (d n : ℕ) where
  -- a mark leaves a copy whole
  pub whole_marked : (c : Copy) → d < s.k → IsWholeCopy s c → IsWholeCopy s (marked d n c)
  whole_marked c below whole = record {
    leader = whole.leader;
    block = whole.block;
    bytes = whole.bytes;
    marks = let long = whole.marks in length-put None c.marks d (Some n) (omega (arith, long, below)) ∙ long;
  }

  whole_chosen : (y c : Copy) (b : Bool) → IsWholeCopy s y → IsWholeCopy s c → IsWholeCopy s (if b then y else c)
  whole_chosen y c true one other = one
  whole_chosen y c false one other = other

  whole_kept : (b : Bool) (y : Copy) (cs : List Copy) → IsWholeCopy s y → All (IsWholeCopy s) cs → All (IsWholeCopy s) (kept_until b y cs).copies
  whole_kept true y cs one all = All-filter (λ (c : Copy). not (is_copy y.leader y.number c)) (IsWholeCopy s) cs all
  whole_kept false y cs one all = All-map (IsWholeCopy s) (λ (c : Copy). if is_copy y.leader y.number c then y else c) cs
      (λ i e lt. whole_chosen y (get_or cs i e) (is_copy y.leader y.number (get_or cs i e)) one (all i e lt))

  each_kept : (b : Bool) (y : Copy) (cs : List Copy) → HaveOneEach cs → HaveOneEach (kept_until b y cs).copies
  each_kept true y cs each = each-filter (λ (c : Copy). not (is_copy y.leader y.number c)) cs each
  each_kept false y cs each = each-with y cs each

  pub whole_after : (o : Option Copy) (cs : List Copy) → d < s.k → IfSome o (IsWholeCopy s) → All (IsWholeCopy s) cs
      → All (IsWholeCopy s) (marking s d n o cs).copies
  whole_after None cs below one all = all
  whole_after (Some c) cs below one all = whole_kept (is_marked s (marked d n c)) (marked d n c) cs (whole_marked c below one) all

  pub each_after : (o : Option Copy) (cs : List Copy) → HaveOneEach cs → HaveOneEach (marking s d n o cs).copies
  each_after None cs each = each
  each_after (Some c) cs each = each_kept (is_marked s (marked d n c)) (marked d n c) cs each

  module _ (l k : ℕ) (cs : List Copy) where
    pub none_there : copy_in cs l k ≡ None → record { copies = cs; done = None } ≡ marking s d n (copy_in cs l k) cs
    none_there none = ap (λ (o : Option Copy). marking s d n o cs) (sym none)

    module _ (i : ℕ) (x : Copy) (at_place : CopyStandsAt l k cs i) (is : x ≡ get_or cs i x) (each : HaveOneEach cs) where
      found : copy_in cs l k ≡ Some x
      found = at_place.copy x ∙ ap Some (sym is)

      own : is_copy x.leader x.number (get_or cs i x) ≡ true
      own = ap (is_copy x.leader x.number) (sym is) ∙ own_session x

      told : (b : Bool) → is_marked s (marked d n x) ≡ b → kept_until b (marked d n x) cs ≡ marking s d n (copy_in cs l k) cs
      told b test = sym (ap (λ (o : Option Copy). marking s d n o cs) found ∙ ap (λ (a : Bool). kept_until a (marked d n x) cs) test)

      pub waits : is_marked s (marked d n x) ≡ false → record { copies = set cs i (marked d n x); done = None } ≡ marking s d n (copy_in cs l k) cs
      waits test = ap (λ (left : List Copy). record { copies = left; done = None }) (set_with (marked d n x) cs i x each at_place.within own) ∙ told false test

      pub is_done : is_marked s (marked d n x) ≡ true
          → record { copies = remove (set cs i (marked d n x)) i; done = Some (marked d n x) }
          ≡ marking s d n (copy_in cs l k) cs
      is_done test = ap (λ (left : List Copy). record { copies = left; done = Some (marked d n x) })
          (remove_without (marked d n x) cs i x each at_place.within own) ∙ told true test

-- the copy for a session is there where its place is found
pub found_is : (l n : ℕ) (cs : List Copy) (r : Option ℕ) → IfSome r (CopyStandsAt l n cs) → IfNone r (copy_in cs l n ≡ None)
    → is_some r ≡ is_some (copy_in cs l n)
found_is l n cs None some none = sym (ap is_some none)
found_is l n cs (Some i) some none = sym (ap is_some (some.copy (record { leader = 0; number = 0; block = 0; bytes = []; marks = [] })))
