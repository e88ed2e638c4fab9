-- Answers of a cluster, from those of its groups.
use Rattle.std.proofs.Common.{ℕ, zero, suc, ◌≡◌, ◌≢◌, ◌<◌, ◌≤◌, ◌+◌, List, [], ◌∷◌, ◌++◌, length, take, drop, Some, ◌⊎◌}
use Rattle.std.proofs.Common.{inl, inr, refl, sym, ap, subst, ◌∙◌, arith}
use Rattle.std.specs.Prelude.{Contains, slice_get}
use Rattle.std.proofs.Math.Seq.{take-append_seam}
use Rattle.std.proofs.lemmas.Bool.{cases_lt}
use Rattle.std.proofs.lemmas.List.{append_assoc, take-append-le}
use Rattle.std.proofs.lemmas.Option.{get_or_from_slice_get, slice_get-get_or, slice_get_within}
use Rattle.memc_table.specs.Asked.{Asked}
use Rattle.memc_table.specs.declared.reply.Reply.{Reply}
use Rattle.group_calls.specs.Turns.{CallName, Turn, asks_of, call_entry, log_of, name_of}
use Rattle.group_calls.specs.Within.{AnswersWithin, Fetches, IsAsk, IsLoggedSince}
use Rattle.group_calls.specs.declared.entry.Entry.{Entry}
use Rattle.group_calls.specs.declared.event.Answer.TheVariants as answered
use Rattle.group_layout.specs.Cluster.{ClusterEntry, GroupTurn, logged_in, tagged}
use Rattle.group_layout.specs.Promise.{entries_in}
use Rattle.group_layout.specs.Within.{ClusterAnswersWithin, IsAskIn, IsLoggedSinceIn, turns_in}
use Rattle.group_layout.proofs.Moves.{entries-logged}
use Rattle.group_layout.proofs.Picked as pick

contains-get : {X : Type 0} (xs : List X) (x : X) → Contains xs x → (i : ℕ) × (slice_get xs i ≡ Some x)
contains-get xs x there = (there.0, slice_get-get_or xs there.0 x there.1 ∙ ap Some there.2)

get-contains : {X : Type 0} (xs : List X) (x : X) (i : ℕ) → slice_get xs i ≡ Some x → Contains xs x
get-contains xs x i is = (i, slice_get_within xs i x is, get_or_from_slice_get xs i x x is)

-- the log of the first turns, and that of the others behind
logged-split : (n : ℕ) (ts : List GroupTurn) → logged_in ts ≡ logged_in (take n ts) ++ logged_in (drop n ts)
logged-split zero ts = refl
logged-split (suc n) [] = refl
logged-split (suc n) (t ∷ ts) =
    ap (λ (rest : List ClusterEntry). tagged t.group t.turn.logged ++ rest) (logged-split n ts)
    ∙ sym (append_assoc (tagged t.group t.turn.logged) (logged_in (take n ts)) (logged_in (drop n ts)))

module _ (k : ℕ) (turns : List GroupTurn) (each : (j : ℕ) → AnswersWithin k (turns_in j turns)) where
  abbrev group-of : GroupTurn → ℕ
  group-of t = t.group

  abbrev turn-of : GroupTurn → Turn
  turn-of t = t.turn

  abbrev at-group : ClusterEntry → ℕ
  at-group e = e.0

  abbrev entry-at : ClusterEntry → Entry
  entry-at e = e.1

  abbrev turn-place : ℕ → ℕ → ℕ
  turn-place j i = pick.place group-of turn-of j turns i

  -- an ask in its group
  ask-down : (i : ℕ) (t : GroupTurn) (name : CallName) (op : Asked) → IsAskIn turns i t name op
      → IsAsk (turns_in t.group turns) (turn-place t.group i) t.turn name op
  ask-down i t name op ask = record {
    there = pick.get-picked group-of turn-of t.group turns i t ask.there refl;
    at = ask.at;
    event = ask.event;
    place = ap (asks_of name.caller) (pick.take-picked group-of turn-of t.group turns i) ∙ ask.place;
  }

  -- an ask of a group in the cluster
  record Asked-in (j i : ℕ) (name : CallName) (op : Asked) : Type 0 where
    pub at : ℕ
    pub ask : GroupTurn
    pub own : ask.group ≡ j
    pub here : turn-place j at ≡ i
    pub asked : IsAskIn turns at ask name op

  ask-up : (j i : ℕ) (turn : Turn) (name : CallName) (op : Asked) → IsAsk (turns_in j turns) i turn name op → Asked-in j i name op
  ask-up j i turn name op ask =
      let was : pick.Stood group-of turn-of j turns i turn = pick.stood group-of turn-of j turns i turn ask.there in
      record {
        at = was.at;
        ask = was.thing;
        own = was.own;
        here = was.here;
        asked = record {
          there = was.there;
          at = ask.at;
          event = ap (λ (t : Turn). t.event) was.is ∙ ask.event;
          place = ap (λ (g : ℕ). asks_of name.caller (turns_in g (take was.at turns))) was.own
              ∙ ap (asks_of name.caller) (sym (pick.take-picked group-of turn-of j turns was.at))
              ∙ ap (λ (n : ℕ). asks_of name.caller (take n (turns_in j turns))) was.here
              ∙ ask.place;
        };
      }

  -- the log of a group, and of its first turns
  group-log : (j : ℕ) → entries_in j (logged_in turns) ≡ log_of (turns_in j turns)
  group-log j = entries-logged j turns

  first-log : (j n : ℕ) → entries_in j (logged_in (take n turns)) ≡ log_of (take (turn-place j n) (turns_in j turns))
  first-log j n = entries-logged j (take n turns) ∙ ap log_of (sym (pick.take-picked group-of turn-of j turns n))

  -- an entry of the cluster's log in that of its group
  entry-down : (j i : ℕ) (entry : Entry) → slice_get (logged_in turns) i ≡ Some (j, entry)
      → slice_get (log_of (turns_in j turns)) (pick.place at-group entry-at j (logged_in turns) i) ≡ Some entry
  entry-down j i entry is =
      ap (λ (log : List Entry). slice_get log (pick.place at-group entry-at j (logged_in turns) i)) (sym (group-log j))
      ∙ pick.get-picked at-group entry-at j (logged_in turns) i (j, entry) is refl

  contains-down : (j : ℕ) (entry : Entry) → Contains (logged_in turns) (j, entry) → Contains (log_of (turns_in j turns)) entry
  contains-down j entry there =
      let got = contains-get (logged_in turns) (j, entry) there in
      get-contains (log_of (turns_in j turns)) entry (pick.place at-group entry-at j (logged_in turns) got.0) (entry-down j got.0 entry got.1)

  once-in : (i n : ℕ) (a b : ClusterEntry) → i < n → slice_get (logged_in turns) i ≡ Some a
      → slice_get (logged_in turns) n ≡ Some b → a.0 ≡ b.0 → name_of a.1 ≢ name_of b.1
  once-in i n a b before first second same =
      let w : List ClusterEntry = logged_in turns in
      let there : slice_get w n ≡ Some (a.0, b.1) = second ∙ ap (λ (g : ℕ). Some (g, b.1)) (sym same) in
      let next = pick.place-next at-group entry-at a.0 w i a first refl in
      let rises = pick.place-rises at-group entry-at a.0 w (suc i) n (omega (arith, before)) in
      (each a.0).once (pick.place at-group entry-at a.0 w i) (pick.place at-group entry-at a.0 w n) a.1 b.1 (omega (arith, next, rises))
      (entry-down a.0 i a.1 first) (entry-down a.0 n b.1 there)

  asked-in : (i : ℕ) (t : GroupTurn) (entry : Entry) → slice_get turns i ≡ Some t → Contains t.turn.logged entry
      → (n : ℕ) × (ask : GroupTurn) × (n ≤ i) × (ask.group ≡ t.group) × IsAskIn turns n ask (name_of entry) entry.op
  asked-in i t entry there logged =
      let down = (each t.group).asked (turn-place t.group i) t.turn entry (pick.get-picked group-of turn-of t.group turns i t there refl) logged in
      let up : Asked-in t.group down.0 (name_of entry) entry.op = ask-up t.group down.0 down.1 (name_of entry) entry.op down.3 in (
        up.at,
        up.ask,
        pick.in-order group-of turn-of t.group turns up.at i t there refl
            (subst (λ (n : ℕ). n ≤ turn-place t.group i) (sym up.here) down.2),
        up.own,
        up.asked,
      )

  later-in : (i : ℕ) (t : GroupTurn) (name : CallName) (reply : Reply) → slice_get turns i ≡ Some t
      → Fetches t.turn.event name → t.turn.answer ≡ answered.Reply reply → IsLoggedSinceIn turns i t.group name reply
  later-in i t name reply there fetches is =
      let j : ℕ = t.group in
      let n : ℕ = turn-place j i in
      let down : IsLoggedSince (turns_in j turns) n name reply =
      (each j).later n t.turn name reply (pick.get-picked group-of turn-of j turns i t there refl) fetches is in
      let up : Asked-in j down.j name down.op = ask-up j down.j down.ask name down.op down.asked in
      let first : List ClusterEntry = logged_in (take (i + 1) turns) in
      let step : i + 1 ≡ suc i = omega arith in
      let one : turn-place j (suc i) ≡ suc n = pick.place-next group-of turn-of j turns i t there refl in
      let next : turn-place j (i + 1) ≡ n + 1 = ap (turn-place j) step ∙ one ∙ omega arith in
      let log-is : entries_in j first ≡ log_of (take (n + 1) (turns_in j turns)) = first-log j (i + 1)
      ∙ ap (λ (x : ℕ). log_of (take x (turns_in j turns))) next in
      let was : pick.Stood at-group entry-at j first down.place (call_entry name down.op reply)
      = pick.stood at-group entry-at j first down.place (call_entry name down.op reply)
      (ap (λ (log : List Entry). slice_get log down.place) log-is ∙ down.entry) in
      let before : List ClusterEntry = logged_in (take up.at turns) in
      let short : length (entries_in j before) ≤ down.place
      = subst (λ (x : ℕ). x ≤ down.place) (sym (ap length (first-log j up.at ∙ ap (λ (x : ℕ). log_of (take x (turns_in j turns))) up.here))) down.since in
      record {
        op = down.op;
        asking = up.at;
        ask = up.ask;
        asked = up.asked;
        own = up.own;
        place = was.at;
        entry = was.there ∙ (λ x. Some (was.own x, was.is x));
        since = behind j before first (logged_in (drop up.at turns)) (logged_in (drop (i + 1) turns)) was.at was.thing
            down.place (sym (logged-split up.at turns) ∙ logged-split (i + 1) turns)
            was.there was.own was.here short;
      }
    where
      -- of two beginnings of one log, the entry that is picked later stands behind
      behind : (j : ℕ) (before first more rest : List ClusterEntry) (p : ℕ) (x : ClusterEntry) (q : ℕ)
          → before ++ more ≡ first ++ rest → slice_get first p ≡ Some x → at-group x ≡ j
          → pick.place at-group entry-at j first p ≡ q → length (entries_in j before) ≤ q → length before ≤ p
      behind j before first more rest p x q whole got own here short = by (cases_lt p (length before)) where
        low : p < length first
        low = slice_get_within first p x got

        by : (p < length before) ⊎ (length before ≤ p) → length before ≤ p
        by (inr ok) = ok
        by (inl early) =
            let w : List ClusterEntry = before ++ more in
            let in-w : slice_get w p ≡ Some x = ap (λ (l : List ClusterEntry). slice_get l p) whole ∙ pick.get-append first rest p x got in
            let next : pick.place at-group entry-at j w (suc p) ≡ suc (pick.place at-group entry-at j w p) =
            pick.place-next at-group entry-at j w p x in-w own in
            let rises : pick.place at-group entry-at j w (suc p) ≤ pick.place at-group entry-at j w (length before) =
            pick.place-rises at-group entry-at j w (suc p) (length before) (omega (arith, early)) in
            let front : pick.place at-group entry-at j w (length before) ≡ length (entries_in j before) =
            ap (λ (l : List ClusterEntry). length (entries_in j l)) (take-append_seam before more) in
            let same : pick.place at-group entry-at j w p ≡ pick.place at-group entry-at j first p
            = ap (λ (l : List ClusterEntry). length (entries_in j l)) (ap (take p) whole ∙ take-append-le p first rest (omega (arith, low))) in
            absurd (omega (arith, next, rises, front, same, here, short))

  pub within-in : ClusterAnswersWithin k turns
  within-in = record {
    once = once-in;
    asked = asked-in;
    at_once = λ i t name op reply ask is. (each t.group).at_once (turn-place t.group i) t.turn name op reply (ask-down i t name op ask) is;
    later = later-in;
    refused = λ i t name op entry ask none there. (each t.group).refused (turn-place t.group i) t.turn name op entry
        (ask-down i t name op ask) none (contains-down t.group entry there);
    gone = λ i t name d entry there traces is logged accepted home. (each t.group).gone (turn-place t.group i) t.turn name d entry
        (pick.get-picked group-of turn-of t.group turns i t there refl) traces is (contains-down t.group entry logged) accepted home;
  }
