use Rattle.std.proofs.Common.{◌≡◌, ◌≢◌, ℕ, zero, suc, ◌+◌, ◌-◌, ◌<◌, ◌≤◌, min, nat_eq, Bool, true, false, ◌||◌, List}
use Rattle.std.proofs.Common.{[], ◌∷◌, ◌++◌, length, take, drop, All, Option, Some, None, refl, sym, ap, ◌∙◌, subst}
use Rattle.std.proofs.Common.{arith}
use Rattle.std.proofs.Math.Seq.{take-length}
use Rattle.std.proofs.lemmas.List.{length-drop}
use Rattle.std.specs.Cmp.Lexicographic.{pointwise, told_text}
use Rattle.std.specs.List.{slice_get, list_any}
use Rattle.std.specs.Option.{option_map}
use Rattle.std.proofs.lemmas.List.Elements.{All-cons, All-nil, All-head, All-tail}
use Rattle.memc_table.specs.Act.{key_of}
use Rattle.memc_table.specs.Asked.{Asked}
use Rattle.memc_table.specs.declared.act.Act.{Act}
use Rattle.memc_table.specs.declared.act.Act.TheVariants as act
use Rattle.memc_proto.specs.declared.request.Request.{Request}
use Rattle.memc_proto.specs.declared.request.Request.TheVariants.{Get, Change}
use Rattle.front_end.specs.Ahead.{acts_of, acts_ahead, HasNeed, IsDueAhead, NoneIsDueAhead}
use Rattle.front_end.specs.Progress.{behind, waiting_behind}
use Rattle.front_end.specs.Settling.{CallIsDue}
use Rattle.front_end.specs.Turns.{IsMoment}
use Rattle.front_end.specs.declared.overlap.Need.{Need}
use Rattle.front_end.specs.declared.overlap.Need.TheVariants as need
use Rattle.front_end.proofs.Stepping.{whole-behind}

get-left : {X : Type 0} (xs ys : List X) (i : ℕ) → i < length xs → slice_get (xs ++ ys) i ≡ slice_get xs i
get-left [] ys i within = absurd (omega (arith, within))
get-left (x ∷ xs) ys zero within = refl
get-left (x ∷ xs) ys (suc i) within = get-left xs ys i (omega (arith, within))

get-right : {X : Type 0} (xs ys : List X) (i : ℕ) → length xs ≤ i → slice_get (xs ++ ys) i ≡ slice_get ys (i - length xs)
get-right [] ys i past = let e : i ≡ i - 0 = omega arith in ap (slice_get ys) e
get-right (x ∷ xs) ys zero past = absurd (omega (arith, past))
get-right (x ∷ xs) ys (suc i) past =
    let e : i - length xs ≡ suc i - length (x ∷ xs) = omega arith in get-right xs ys i (omega (arith, past)) ∙ ap (slice_get ys) e

-- the act is one of the request's own
pub act-here : (request : Request) (rest : List Request) (k number : ℕ) → acts_ahead (behind k request ∷ rest) ≡ acts_of (behind k request) ++ acts_ahead rest
    → number < length (acts_of (behind k request)) → slice_get (acts_of (behind k request)) number ≡ slice_get (acts_ahead (behind k request ∷ rest)) number
act-here request rest k number own within =
    sym (ap (λ (xs : List Act). slice_get xs number) own ∙ get-left (acts_of (behind k request)) (acts_ahead rest) number within)

-- the act is one of the requests behind it
pub act-behind : (request : Request) (rest : List Request) (k number count : ℕ) → acts_ahead (behind k request ∷ rest)
    ≡ acts_of (behind k request) ++ acts_ahead rest
    → count ≡ length (acts_of (behind k request)) → count ≤ number → slice_get (acts_ahead (waiting_behind 0 rest))
    (number - count) ≡ slice_get (acts_ahead (behind k request ∷ rest)) number
act-behind request rest k number count own counted past =
    ap (λ (rs : List Request). slice_get (acts_ahead rs) (number - count)) (whole-behind rest)
    ∙ ap (λ (n : ℕ). slice_get (acts_ahead rest) (number - n)) counted
    ∙ sym (get-right (acts_of (behind k request)) (acts_ahead rest) number (omega (arith, counted, past)))
    ∙ ap (λ (xs : List Act). slice_get xs number) (sym own)

any-split : {X : Type 0} (p : X → Bool) (xs ys : List X) (n : ℕ) → list_any p (take n (xs ++ ys))
    ≡ (list_any p (take n xs) || list_any p (take (n - min (length xs) n) ys))
any-split p [] ys n = let e : n ≡ n - min 0 n = omega arith in ap (λ (m : ℕ). list_any p (take m ys)) e ∙ by n
  where
    by : (m : ℕ) → list_any p (take (n - min 0 n) ys) ≡ (list_any p (take m []) || list_any p (take (n - min 0 n) ys))
    by zero = refl
    by (suc m) = refl
any-split p (x ∷ xs) ys zero = let e : 0 ≡ 0 - min (length (x ∷ xs)) 0 = omega arith in ap (λ (m : ℕ). list_any p (take m ys)) e
any-split p (x ∷ xs) ys (suc n) =
    let e : n - min (length xs) n ≡ suc n - min (length (x ∷ xs)) (suc n) = omega arith in
    by (p x) (any-split p xs ys n ∙ ap (λ (m : ℕ). list_any p (take n xs) || list_any p (take m ys)) e)
  where
    by : (b : Bool) → list_any p (take n (xs ++ ys)) ≡ (list_any p (take n xs) || list_any p (take (suc n - min (length (x ∷ xs)) (suc n)) ys))
        → (b || list_any p (take n (xs ++ ys))) ≡ ((b || list_any p (take n xs)) || list_any p (take (suc n - min (length (x ∷ xs)) (suc n)) ys))
    by true rest = refl
    by false rest = rest

-- none of the request's own acts asks the key
pub asks-behind : (p : Act → Bool) (request : Request) (rest : List Request) (k count own : ℕ)
    → acts_ahead (behind k request ∷ rest) ≡ acts_of (behind k request) ++ acts_ahead rest
    → own ≡ length (acts_of (behind k request)) → list_any p (take count (acts_of (behind k request))) ≡ false
    → list_any p (take (count - min own count) (acts_ahead (waiting_behind 0 rest))) ≡ list_any p (take count (acts_ahead (behind k request ∷ rest)))
asks-behind p request rest k count own is counted none =
    ap (λ (rs : List Request). list_any p (take (count - min own count) (acts_ahead rs))) (whole-behind rest)
    ∙ ap (λ (n : ℕ). list_any p (take (count - min n count) (acts_ahead rest))) counted
    ∙ sym (ap (λ (xs : List Act). list_any p (take count xs)) is ∙ any-split p (acts_of (behind k request)) (acts_ahead rest) count
    ∙ ap (λ (b : Bool). b || list_any p (take (count - min (length (acts_of (behind k request))) count) (acts_ahead rest))) none)

-- one of the request's own acts asks the key
pub asks-here : (p : Act → Bool) (request : Request) (rest : List Request) (k count : ℕ)
    → acts_ahead (behind k request ∷ rest) ≡ acts_of (behind k request) ++ acts_ahead rest
    → list_any p (take count (acts_of (behind k request))) ≡ true → true ≡ list_any p (take count (acts_ahead (behind k request ∷ rest)))
asks-here p request rest k count is some =
    sym (ap (λ (xs : List Act). list_any p (take count xs)) is ∙ any-split p (acts_of (behind k request)) (acts_ahead rest) count
    ∙ ap (λ (b : Bool). b || list_any p (take (count - min (length (acts_of (behind k request))) count) (acts_ahead rest))) some)

get-seam : {X : Type 0} (xs ys : List X) (x : X) → slice_get (xs ++ x ∷ ys) (length xs) ≡ Some x
get-seam [] ys x = refl
get-seam (y ∷ xs) ys x = get-seam xs ys x

split-at : {X : Type 0} (xs : List X) (i : ℕ) (x : X) → slice_get xs i ≡ Some x → xs ≡ take i xs ++ x ∷ drop (suc i) xs
split-at [] i x found = absurd (cc found)
split-at {X} (y ∷ xs) zero x found = let same : y ≡ x = cc found in ap (λ (z : X). z ∷ xs) same
split-at {X} (y ∷ xs) (suc i) x found = ap (λ (ys : List X). y ∷ ys) (split-at xs i x found)

take-long : {X : Type 0} (xs : List X) (i : ℕ) (x : X) → slice_get xs i ≡ Some x → length (take i xs) ≡ i
take-long [] i x found = absurd (cc found)
take-long (y ∷ xs) zero x found = refl
take-long (y ∷ xs) (suc i) x found = ap suc (take-long xs i x found)

take-front : {X : Type 0} (xs ys : List X) → take (length xs) (xs ++ ys) ≡ xs
take-front [] ys = refl
take-front {X} (x ∷ xs) ys = ap (λ (zs : List X). x ∷ zs) (take-front xs ys)

-- whether an act asks a key
abbrev pub asks_key : List ℕ → Act → Bool
asks_key key a = pointwise nat_eq (key_of a) key

all-apart : (key : List ℕ) (acts : List Act) → list_any (asks_key key) acts ≡ false → All (λ other. key_of other ≢ key) acts
all-apart key [] none = All-nil (λ other. key_of other ≢ key)
all-apart key (a ∷ acts) none = by (asks_key key a) refl none (all-apart key acts)
  where
    by : (b : Bool) → b ≡ asks_key key a → (b || list_any (asks_key key) acts) ≡ false
        → (list_any (asks_key key) acts ≡ false → All (λ other. key_of other ≢ key) acts)
        → All (λ other. key_of other ≢ key) (a ∷ acts)
    by true is none rest = absurd (cc none)
    by false is none rest = All-cons (λ other. key_of other ≢ key) a acts (told_text (key_of a) key false is) (rest none)

any-asks : (key : List ℕ) (acts : List Act) → list_any (asks_key key) acts ≡ true → ¬ (All (λ other. key_of other ≢ key) acts)
any-asks key [] some apart = cc some
any-asks key (a ∷ acts) some apart = by (asks_key key a) refl some (any-asks key acts)
  where
    by : (b : Bool) → b ≡ asks_key key a → (b || list_any (asks_key key) acts) ≡ true
        → (list_any (asks_key key) acts ≡ true → ¬ (All (λ other. key_of other ≢ key) acts)) → ⊥
    by true is some rest = All-head (λ other. key_of other ≢ key) a acts apart (told_text (key_of a) key true is)
    by false is some rest = rest some (All-tail (λ other. key_of other ≢ key) a acts apart)

-- one of the first keys is the one, and one of the first acts of their get asks it
pub any-keys : (key : List ℕ) (keys : List (List ℕ)) (with_cas : Bool) (count : ℕ)
    → list_any (λ k. pointwise nat_eq k key) (take count keys) ≡ list_any (asks_key key)
    (take count (acts_of (Get keys with_cas)))
any-keys key keys with_cas zero = refl
any-keys key [] with_cas (suc n) = refl
any-keys key (k ∷ keys) with_cas (suc n) = ap (λ (b : Bool). pointwise nat_eq k key || b) (any-keys key keys with_cas n)

-- the key of an act of a get
pub get-keys : (keys : List (List ℕ)) (with_cas : Bool) (number : ℕ)
    → slice_get keys number ≡ option_map key_of (slice_get (acts_of (Get keys with_cas)) number)
get-keys [] with_cas number = refl
get-keys (k ∷ keys) with_cas zero = refl
get-keys (k ∷ keys) with_cas (suc n) = get-keys keys with_cas n

found-key : (acts : List Act) (number : ℕ) (key : List ℕ) (a : Act)
    → Some key ≡ option_map key_of (slice_get acts number) → Some a ≡ slice_get acts number → key ≡ key_of a
found-key acts number key a key_is act_is = let e : Some key ≡ Some (key_of a) = key_is ∙ ap (option_map key_of) (sym act_is) in cc e

-- the act may begin
pub is-due-ahead : (told : Option ℕ) (waiting : List Request) (begun : ℕ) (key : List ℕ) (op : Asked)
    → Some key ≡ option_map key_of (slice_get (acts_ahead waiting) begun)
    → Some op.act ≡ slice_get (acts_ahead waiting) begun
    → false ≡ list_any (asks_key key) (take begun (acts_ahead waiting)) → IsMoment told op.moment
    → IsDueAhead told waiting begun op
is-due-ahead told waiting begun key op key_is found none moment = record {
  before = take begun (acts_ahead waiting);
  behind = drop (suc begun) (acts_ahead waiting);
  split = split-at (acts_ahead waiting) begun op.act (sym found);
  count = take-long (acts_ahead waiting) begun op.act (sym found);
  apart = subst (λ (k : List ℕ). All (λ other. key_of other ≢ k) (take begun (acts_ahead waiting)))
      (found-key (acts_ahead waiting) begun key op.act key_is found)
      (all-apart key (take begun (acts_ahead waiting)) (sym none));
  moment = moment;
}

at-seam : (acts before behind : List Act) (a : Act) (begun : ℕ) → acts ≡ before ++ a ∷ behind → length before ≡ begun → slice_get acts begun ≡ Some a
at-seam acts before behind a begun split count = ap (slice_get acts) (sym count)
    ∙ ap (λ (xs : List Act). slice_get xs (length before)) split ∙ get-seam before behind a

-- there is no further act
pub none-further : (waiting : List Request) (begun : ℕ) → None ≡ option_map key_of (slice_get (acts_ahead waiting) begun) → NoneIsDueAhead waiting begun
none-further waiting begun none before behind a split count apart =
    let some : option_map key_of (slice_get (acts_ahead waiting) begun) ≡ Some (key_of a) =
    ap (option_map key_of) (at-seam (acts_ahead waiting) before behind a begun split count) in cc (none ∙ some)

-- one of the acts before it asks its key
pub none-apart : (waiting : List Request) (begun : ℕ) (key : List ℕ) → Some key ≡ option_map key_of (slice_get (acts_ahead waiting) begun)
    → true ≡ list_any (asks_key key) (take begun (acts_ahead waiting)) → NoneIsDueAhead waiting begun
none-apart waiting begun key key_is some before behind a split count apart =
    let same : key ≡ key_of a = found-key (acts_ahead waiting) begun key a key_is (sym (at-seam (acts_ahead waiting) before behind a begun split count)) in
    let front : take begun (acts_ahead waiting) ≡ before = ap (λ (n : ℕ). take n (acts_ahead waiting)) (sym count)
    ∙ ap (take (length before)) split ∙ take-front before (a ∷ behind) in
    any-asks (key_of a) before
    (sym (some ∙ ap (λ (xs : List Act). list_any (asks_key key) xs) front
    ∙ ap (λ (k : List ℕ). list_any (asks_key k) before) same)) apart

-- what a request needs is what requests need of which it is the first
pub need-first : (request : Request) (others : List Request) (n : Need) → HasNeed (request ∷ []) n → HasNeed (request ∷ others) n
need-first request others need.Call has = has
need-first request others need.Order has = has
need-first request others need.Text has = has

-- a get of some keys needs a call, and so does a change
pub need-key : (keys left : List (List ℕ)) (with_cas : Bool) → left ≡ keys → 0 < length left → CallIsDue (Get keys with_cas ∷ [])
need-key [] left with_cas same some = let none : length left ≡ 0 = ap length same in absurd (omega (arith, some, none))
need-key (key ∷ keys) left with_cas same some = (None, record { moment = 0; act = act.Get key }, (refl, (omega arith, tt)))

pub need-change : (asked : Act) (noreply : Bool) → CallIsDue (Change asked noreply ∷ [])
need-change asked noreply = (None, record { moment = 0; act = asked }, (refl, (omega arith, tt)))

-- an order comes first: there is no act
pub act-none : (request : Request) (rest : List Request) (k number : ℕ) → acts_ahead (behind k request ∷ rest) ≡ []
    → None ≡ slice_get (acts_ahead (behind k request ∷ rest)) number
act-none request rest k number none = sym (ap (λ (xs : List Act). slice_get xs number) none)

pub asks-none : (p : Act → Bool) (request : Request) (rest : List Request) (k count : ℕ)
    → acts_ahead (behind k request ∷ rest) ≡ [] → false ≡ list_any p (take count (acts_ahead (behind k request ∷ rest)))
asks-none p request rest k count none = by count ∙ sym (ap (λ (xs : List Act). list_any p (take count xs)) none)
  where
    by : (n : ℕ) → false ≡ list_any p (take n [])
    by zero = refl
    by (suc n) = refl

-- all behind the first n elements
pub sliced : {X : Type 0} (n : ℕ) (xs : List X) → take (length xs - n) (drop n xs) ≡ drop n xs
sliced {X} n xs = let e : length xs - n ≡ length (drop n xs) = omega (arith, length-drop n xs) in ap (λ (m : ℕ). take m (drop n xs)) e ∙ take-length (drop n xs)

-- the requests from an index on, of which the first is at it
pub front-as : {T : Type 0} (f : List Request → T) (requests : List Request) (index keys : ℕ) (request : Request)
    → drop index requests ≡ request ∷ drop (index + 1) requests
    → f (behind keys request ∷ drop (index + 1) requests) ≡ f (waiting_behind keys (drop index requests))
front-as f requests index keys request is = ap (λ (rs : List Request). f (waiting_behind keys rs)) (sym is)
