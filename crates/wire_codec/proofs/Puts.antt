-- Fields that are written one behind the other.
use Rattle.std.proofs.Common.{◌≡◌, ℕ, zero, suc, ◌≤◌, drop, ◌+◌, ◌*◌, ◌<◌, get_or, take, List, [], ◌∷◌, ◌++◌, length}
use Rattle.std.proofs.Common.{refl, sym, ap, subst, ◌∙◌, append_assoc, arith}
use Rattle.std.specs.List.{AllByRecursion, flat_map}
use Rattle.std.proofs.lemmas.Grind.{flat_map-append}
use Rattle.std.proofs.lemmas.List.{length-append, append-nil, take_more, take-append-drop}
use Rattle.std.proofs.lemmas.List.Concat.{flat_map-cons}
use Rattle.group_types.specs.declared.process.ProcessId.{ProcessId}
use Rattle.group_types.specs.declared.process.ProcessId.TheVariants.{DataNode, ParityNode}
use Rattle.group_message.specs.declared.message.Message.{Message}
use Rattle.group_message.specs.declared.message.Message.TheVariants as tells
use Rattle.group_message.specs.declared.message.Session.{Session}
use Rattle.group_message.specs.declared.update.Body.{Body}
use Rattle.group_message.specs.declared.update.Body.TheVariants.{Put, Remove, Touch}
use Rattle.group_message.specs.declared.update.Update.{Update}
use Rattle.wire_codec.specs.Frame.{one, four, eight, process, session, short, long, maybe, run, body, outcome, update, frame_body}
use Rattle.wire_codec.specs.Parts.{delta_of, value_of, body_before, update_before, text_before, text_behind}

pub joins_two : (out x y a b : List ℕ) → x ≡ out ++ a → y ≡ x ++ b → y ≡ out ++ (a ++ b)
joins_two out x y a b p q = q ∙ ap (λ (t : List ℕ). t ++ b) p ∙ append_assoc out a b

pub joins_three : (out x y z a b c : List ℕ) → x ≡ out ++ a → y ≡ x ++ b → z ≡ y ++ c → z ≡ out ++ (a ++ b ++ c)
joins_three out x y z a b c p q r = joins_two out y z (a ++ b) c (joins_two out x y a b p q) r

pub joins_four : (out x y z w a b c d : List ℕ) → x ≡ out ++ a → y ≡ x ++ b → z ≡ y ++ c → w ≡ z ++ d → w ≡ out ++ (a ++ b ++ c ++ d)
joins_four out x y z w a b c d p q r s = joins_two out z w (a ++ b ++ c) d (joins_three out x y z a b c p q r) s

pub joins_five : (out x y z w v a b c d e : List ℕ) → x ≡ out ++ a → y ≡ x ++ b → z ≡ y ++ c → w ≡ z ++ d → v ≡ w ++ e → v ≡ out ++ (a ++ b ++ c ++ d ++ e)
joins_five out x y z w v a b c d e p q r s t = joins_two out w v (a ++ b ++ c ++ d) e (joins_four out x y z w a b c d p q r s) t

-- a body is what stands before its value, and the value
pub body_parts : (b : Body) → body_before b ++ delta_of b ≡ body b
body_parts (Put flags until r delta) = ap (λ (t : List ℕ). 0 ∷ t) (append_assoc (four flags ++ maybe eight until ++ run r) (four (length delta)) delta)
body_parts Remove = refl
body_parts (Touch until) = append-nil (2 ∷ maybe eight until)

abbrev name_of : Update → List ℕ
name_of u = eight u.number ++ one u.caller ++ eight u.call ++ short u.key

-- an update is what stands before its value, the value, and what stands behind it
pub update_parts : (u : Update) → update_before u ++ delta_of u.body ++ (maybe run u.frees ++ outcome u.outcome) ≡ update u
update_parts u =
    let name = name_of u in
    let front : update_before u ++ delta_of u.body ≡ name ++ body u.body =
    append_assoc name (body_before u.body) (delta_of u.body) ∙ ap (λ (t : List ℕ). name ++ t) (body_parts u.body) in
    ap (λ (t : List ℕ). t ++ (maybe run u.frees ++ outcome u.outcome)) front ∙ sym (append_assoc (name ++ body u.body) (maybe run u.frees) (outcome u.outcome))

refl_parts : (text : List ℕ) → text ++ [] ++ [] ≡ text
refl_parts text = append-nil (text ++ []) ∙ append-nil text

-- so is a text
pub text_parts : (m : Message) → text_before m ++ value_of m ++ text_behind m ≡ frame_body m
text_parts (tells.Update r d u stable) =
    let behind : update_before u ++ delta_of u.body ++ (maybe run u.frees ++ outcome u.outcome ++ eight stable) ≡ update u ++ eight stable =
    sym (append_assoc (update_before u ++ delta_of u.body) (maybe run u.frees ++ outcome u.outcome) (eight stable))
    ∙ ap (λ (t : List ℕ). t ++ eight stable) (update_parts u) in
    ap (λ (t : List ℕ). 1 ∷ r.0 ∷ d.0 ∷ t) behind
text_parts (tells.Block s bytes number) =
    ap (λ (t : List ℕ). 6 ∷ (t ++ eight number)) (append_assoc (session s) (four (length bytes)) bytes)
text_parts (tells.Row s bytes stamp) =
    ap (λ (t : List ℕ). 8 ∷ (t ++ (one (length stamp) ++ flat_map eight stamp)))
    (append_assoc (session s) (four (length bytes)) bytes)
    ∙ ap (λ (t : List ℕ). 8 ∷ t)
    (sym (append_assoc (session s ++ long bytes) (one (length stamp)) (flat_map eight stamp)))
text_parts (tells.Ack r d number) = refl_parts (frame_body (tells.Ack r d number))
text_parts (tells.Stable r d number) = refl_parts (frame_body (tells.Stable r d number))
text_parts (tells.Adopt r d base list) = refl_parts (frame_body (tells.Adopt r d base list))
text_parts (tells.ReadBlock s block rows) = refl_parts (frame_body (tells.ReadBlock s block rows))
text_parts (tells.Mark s r block d number) = refl_parts (frame_body (tells.Mark s r block d number))
text_parts (tells.Cease upto) = refl_parts (frame_body (tells.Cease upto))
text_parts (tells.Notice dead) = refl_parts (frame_body (tells.Notice dead))

-- lengths
pub length-process : (p : ProcessId) → length (process p) ≡ 2
length-process (DataNode d) = refl
length-process (ParityNode i) = refl

pub length-session : (s : Session) → length (session s) ≡ 10
length-session s = length-append (process s.leader) (eight s.number) ∙ ap (λ (n : ℕ). n + 8) (length-process s.leader)

pub length-eights : (ns : List ℕ) → length (flat_map eight ns) ≡ 8 * length ns
length-eights [] = refl
length-eights (n ∷ ns) = omega (arith, ap length (flat_map-cons eight n ns), length-append (eight n) (flat_map eight ns), length-eights ns)

-- one more of a list is written
pub one_more : {A : Type 0} (f : A → List ℕ) (out now next : List ℕ) (xs : List A) (i : ℕ) (x : A) → i < length xs
    → now ≡ out ++ flat_map f (take i xs) → next ≡ now ++ f (get_or xs i x) → next ≡ out ++ flat_map f (take (i + 1) xs)
one_more {A = A} f out now next xs i x lt was is =
    let last : flat_map f (take (i + 1) xs) ≡ flat_map f (take i xs) ++ f (get_or xs i x) =
    ap (λ (ys : List A). flat_map f ys) (take_more xs i x lt) ∙ flat_map-append f (take i xs) (get_or xs i x ∷ [])
    ∙ ap (λ (t : List ℕ). flat_map f (take i xs) ++ t) (flat_map-cons f (get_or xs i x) []
    ∙ append-nil (f (get_or xs i x))) in
    joins_two out now next (flat_map f (take i xs)) (f (get_or xs i x)) was is ∙ ap (λ (t : List ℕ). out ++ t) (sym last)

pub length_row : (s : Session) (bytes stamp : List ℕ) → length (frame_body (tells.Row s bytes stamp)) ≡ 16 + length bytes + 8 * length stamp
length_row s bytes stamp =
    omega (
      arith,
      length-append (session s ++ long bytes ++ one (length stamp)) (flat_map eight stamp),
      length-append (session s ++ long bytes) (one (length stamp)),
      length-append (session s) (long bytes),
      length-append (four (length bytes)) bytes,
      length-session s,
      length-eights stamp,
    )

pub length_more : {A : Type 0} (f : A → List ℕ) (xs : List A) (i : ℕ) (x : A) → i < length xs
    → length (flat_map f (take (i + 1) xs)) ≡ length (flat_map f (take i xs)) + length (f (get_or xs i x))
length_more f xs i x lt =
    let next = one_more f [] (flat_map f (take i xs)) (flat_map f (take i xs) ++ f (get_or xs i x)) xs i x lt refl refl in
    ap length (sym next) ∙ length-append (flat_map f (take i xs)) (f (get_or xs i x))

-- the front of a list and the next of it are no longer than all
pub length_front : {A : Type 0} (f : A → List ℕ) (xs : List A) (i : ℕ) (x : A) → i < length xs
    → length (flat_map f (take i xs)) + length (f (get_or xs i x)) ≤ length (flat_map f xs)
length_front {A = A} f xs i x lt =
    let whole : flat_map f (take (i + 1) xs) ++ flat_map f (drop (i + 1) xs) ≡ flat_map f xs =
    sym (flat_map-append f (take (i + 1) xs) (drop (i + 1) xs)) ∙ ap (λ (ys : List A). flat_map f ys)
    (take-append-drop (i + 1) xs) in
    let more = length_more f xs i x lt in
    omega (arith, more, ap length whole, length-append (flat_map f (take (i + 1) xs)) (flat_map f (drop (i + 1) xs)))

-- what holds of a front and the next
all_next : {A : Type 0} (P : A → Type 0) (xs : List A) (i : ℕ) (x : A) → i < length xs → AllByRecursion P (take i xs)
    → P (get_or xs i x) → AllByRecursion P (take (suc i) xs)
all_next P [] i x lt all p = absurd (omega (arith, lt))
all_next P (y ∷ xs) zero x lt all p = (p, tt)
all_next P (y ∷ xs) (suc i) x lt all p = (all.0, all_next P xs i x (omega (arith, lt)) all.1 p)

pub all_more : {A : Type 0} (P : A → Type 0) (xs : List A) (i : ℕ) (x : A) → i < length xs
    → AllByRecursion P (take i xs) → P (get_or xs i x) → AllByRecursion P (take (i + 1) xs)
all_more P xs i x lt all p =
    let e : suc i ≡ i + 1 = omega arith in
    subst (λ (n : ℕ). AllByRecursion P (take n xs)) e (all_next P xs i x lt all p)

pub all_at : {A : Type 0} (P : A → Type 0) (xs : List A) (i : ℕ) (x : A) → i < length xs → AllByRecursion P xs → P (get_or xs i x)
all_at P [] i x lt all = absurd (omega (arith, lt))
all_at P (y ∷ xs) zero x lt all = all.0
all_at P (y ∷ xs) (suc i) x lt all = all_at P xs i x (omega (arith, lt)) all.1
