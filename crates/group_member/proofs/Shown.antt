-- An answer is shown where enough have answered a ping behind it.
use Rattle.std.proofs.Common.{ℕ, zero, suc, ◌≡◌, ◌<◌, ◌≤◌, ◌+◌, ◌&&◌, nat_lt, Bool, not, [], ◌∷◌, map, refl, sym, ap, subst, ◌∙◌, if◌then◌else◌, arith}
use Rattle.std.specs.List.{range_with_len}
use Rattle.std.specs.Prelude.{Option, Some, None}
use Rattle.group_types.specs.Dimensions.{Dimensions}
use Rattle.group_types.specs.Lists.{at}
use Rattle.group_types.specs.Names.{IsProcess, index_of, process_at}
use Rattle.group_types.specs.declared.process.ProcessId.{ProcessId}
use Rattle.group_types.proofs.Names.{process_at-in}
use Rattle.membership.specs.Members.{count_dead_words, count_known_dead, knows_dead}
use Rattle.group_wire.specs.Actions.{Show}
use Rattle.group_wire.specs.May.{CallIsTold, IsToldBefore, answerers}
use Rattle.group_wire.specs.Sets.{Processes, size_of}
use Rattle.group_wire.specs.State.{Stage, Unasked, AskedOf, Unknown, TracedAt, Answered, OpenCall, Group}
use Rattle.group_wire.proofs.Sizes.{sizes_are_counts}
use Rattle.group_member.specs.Acting.{Acts}
use Rattle.group_member.specs.Callers.{caller_of, with_call}
use Rattle.group_member.specs.Showing.{CanShow, HasEnough, IsToldIn, WasToldBefore, own_answerers}
use Rattle.group_member.specs.Standing.{HandedFrames, Member, MemberStands}
use Rattle.group_member.specs.Words.{AreWords}
use Rattle.group_member.proofs.Calls.{caller-here, gateway-is, stands-with, with-stands}
use Rattle.group_member.proofs.Ended.{call-stands}
use Rattle.group_member.proofs.Reading.{size-same}

-- a word counts as one
abbrev counts : Bool → ℕ
counts word = if word then 1 else 0

counted-within : (a b : ℕ → Bool) (top : ℕ) → ((x : ℕ) → x < top → a x ≡ b x) → (n x : ℕ) → x + n ≤ top
    → count_dead_words (map a (range_with_len x n)) ≡ count_dead_words (map b (range_with_len x n))
counted-within a b top same zero x low = refl
counted-within a b top same (suc n) x low =
    let here : counts (a x) ≡ counts (b x) = ap counts (same x (omega (arith, low))) in
    let rest = counted-within a b top same n (x + 1) (omega (arith, low)) in
    omega (arith, here, rest)

-- sets that have the same processes of a group are of one size
size-within : (s : Dimensions) (a b : Processes) → ((q : ProcessId) → IsProcess s q → a q ≡ b q) → size_of s a ≡ size_of s b
size-within s a b same =
    counted-within (λ x. a (process_at s x)) (λ x. b (process_at s x)) (s.k + s.m)
    (λ x below. same (process_at s x) (process_at-in s x below)) (s.k + s.m) 0 (omega arith)

told-before : (g : Group) (stage : Stage) (ping : ℕ) → IsToldIn stage ping → IsToldBefore g stage ping
told-before g Unasked ping is = is
told-before g (AskedOf x) ping is = is
told-before g Unknown ping is = is
told-before g (TracedAt x) ping is = is
told-before g (Answered t pinged) ping is = is

call-told : (g : Group) (call : Option OpenCall) (ping : ℕ) → WasToldBefore call ping → CallIsTold g call ping
call-told g None ping is = is
call-told g (Some o) ping is = told-before g o.stage ping is

both : (a b c d : Bool) → a ≡ b → c ≡ d → (a && not c) ≡ (b && not d)
both a b c d one other = ap (λ (x : Bool). x && not c) one ∙ ap (λ (y : Bool). b && not y) other

module _ (v : Member) (g : Group) (out : HandedFrames) (st : MemberStands g out v) (words : AreWords v.words) (ping : ℕ) where
  abbrev p : ProcessId
  p = v.words.name

  enough-there : HasEnough v.words v.signs ping → g.shape.m ≤ size_of g.shape (answerers g p ping) + size_of g.shape (g.words.taken p)
  enough-there enough =
      let s = v.words.shape in
      let answered : size_of s (answerers g p ping) ≡ size_of s (own_answerers v.words v.signs ping) =
      size-within s (answerers g p ping) (own_answerers v.words v.signs ping)
      (λ q member. both (g.signs.answered p ping q) (nat_lt ping (at 0 v.signs.answered (index_of s q))) (g.words.taken p q) (knows_dead v.words.taken q)
      (st.signs.answered q ping member) (st.words.taken q)) in
      let taken : size_of s (g.words.taken p) ≡ count_known_dead v.words.taken =
      size-same s (g.words.taken p) (knows_dead v.words.taken) st.words.taken
      ∙ sizes_are_counts s v.words.taken (λ x is. words.named x (words.permitted x (words.taken x is))) in
      subst (λ (d : Dimensions). d.m ≤ size_of d (answerers g p ping) + size_of d (g.words.taken p)) (sym st.shape) (omega (arith, enough, answered, taken))

pub show-acts : (v : Member) (caller ping : ℕ) → CanShow v caller ping → AreWords v.words
    → Acts (Show caller ping ∷ []) v (record v { callers = with_call v.callers caller None })
show-acts v caller ping can words g out st =
    let with = stands-with st in
    let named = gateway-is with caller can.its in
    record {
      may = (
        (
          caller-here with caller can.its,
          (record {
            told = subst (λ (call : Option OpenCall). CallIsTold g call ping) (sym (st.callers.call caller can.its))
                (call-told g (caller_of v.callers caller).call ping can.told);
            sent = subst (λ (n : ℕ). ping < n) (sym (ap g.signs.pinged named ∙ st.signs.pinged)) can.sent;
            enough = subst (λ (p : ProcessId). g.shape.m ≤ size_of g.shape (answerers g p ping) + size_of g.shape (g.words.taken p)) (sym named)
                (enough-there v g out st words ping can.enough);
          }),
        ),
        tt,
      );
      stands = with-stands (call-stands g out v [] [] with caller can.its None);
    }
