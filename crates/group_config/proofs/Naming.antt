-- The members that are read one by one, and their names.
use Rattle.std.proofs.Common.{◌≡◌, ℕ, ◌+◌, Bool, true, false, List, [], ◌∷◌, ◌++◌, Option, Some, None, option_map}
use Rattle.std.proofs.Common.{Result, Ok, Err, if◌then◌else◌, refl, sym, ap, subst, ◌∙◌, suc, arith}
use Rattle.std.proofs.lemmas.List.{append_assoc}
use Rattle.std.specs.Str.{bytes_eq}
use Rattle.toml.specs.Data.{Data, Items, item}
use Rattle.toml.specs.View.{items_view, view}
use Rattle.toml.specs.declared.value.Value.{Value}
use Rattle.group_config.proofs.Answering.{answered, fails}
use Rattle.group_config.specs.MemberReading.{IsMemberOutcome}
use Rattle.group_config.specs.MemberTable.{entries_of, entry_of, member_index}
use Rattle.group_config.specs.Reading.{follow}
use Rattle.group_config.specs.declared.member_entry.MemberEntry.{MemberEntry}
use Rattle.group_config.specs.declared.member_fault.MemberFault.{MemberFault}
use Rattle.group_config.specs.declared.member_key.MemberKey.{MemberKey}

-- an index behind so many
abbrev pub from : ℕ → Option ℕ → Option ℕ
from at None = None
from at (Some n) = Some (at + n)

pub from-next : (at : ℕ) (found : Option ℕ) → from (at + 1) found ≡ from at (option_map suc found)
from-next at None = refl
from-next at (Some n) = ap (λ (n : ℕ). Some n) (omega arith)

pub index-here : (name : List ℕ) (e : MemberEntry) (es : List MemberEntry) (at : ℕ) → bytes_eq e.name name ≡ true
    → from at (member_index name (e ∷ es)) ≡ Some at
index-here name e es at same =
    ap (λ (b : Bool). from at (if b then Some 0 else option_map suc (member_index name es))) same ∙ ap (λ (n : ℕ). Some n) (omega arith)

pub index-next : (name : List ℕ) (e : MemberEntry) (es : List MemberEntry) (at : ℕ) → bytes_eq e.name name ≡ false
    → from at (member_index name (e ∷ es)) ≡ from (at + 1) (member_index name es)
index-next name e es at apart = ap (λ (b : Bool). from at (if b then Some 0 else option_map suc (member_index name es)))
    apart ∙ sym (from-next at (member_index name es))

-- members before those that are read
abbrev pub behind : List MemberEntry → Result (List MemberEntry) MemberKey → Result (List MemberEntry) MemberKey
behind before rest = follow rest (λ es. Ok (before ++ es))

pub behind-first : (rest : Result (List MemberEntry) MemberKey) → behind [] rest ≡ rest
behind-first (Ok es) = refl
behind-first (Err key) = refl

joined : (before : List MemberEntry) (e : MemberEntry) (rest : Result (List MemberEntry) MemberKey)
    → behind before (follow rest (λ es. Ok (e ∷ es))) ≡ behind (before ++ e ∷ []) rest
joined before e (Ok es) = ap (λ (l : List MemberEntry). Ok l) (sym (append_assoc before (e ∷ []) es))
joined before e (Err key) = refl

-- one more
pub behind-next : (before : List MemberEntry) (d : Data) (ds : Items) (e : MemberEntry) → IsMemberOutcome (entry_of d) (Ok e)
    → behind before (entries_of (item d ds)) ≡ behind (before ++ e ∷ []) (entries_of ds)
behind-next before d ds e answers =
    ap (λ (wanted : Result MemberEntry MemberKey).
    behind before (follow wanted (λ f. follow (entries_of ds) (λ es. Ok (f ∷ es)))))
    (answered (entry_of d) e answers) ∙ joined before e (entries_of ds)

-- one that isn't given
pub behind-fails : (before : List MemberEntry) (d : Data) (ds : Items) (fault : MemberFault)
    → IsMemberOutcome (entry_of d) (Err fault) → IsMemberOutcome (behind before (entries_of (item d ds))) (Err fault)
behind-fails before d ds fault answers = fails (follow (entry_of d) (λ e. follow (entries_of ds) (λ es. Ok (e ∷ es))))
    (λ es. Ok (before ++ es)) fault (fails (entry_of d) (λ e. follow (entries_of ds) (λ es. Ok (e ∷ es))) fault answers)

-- the values that are left
pub left-next : (before : List MemberEntry) (left rest : List Value) (first : Value)
    (all : Result (List MemberEntry) MemberKey) (e : MemberEntry) → left ≡ first ∷ rest
    → behind before (entries_of (items_view left)) ≡ all
    → IsMemberOutcome (entry_of (view first)) (Ok e) → behind (before ++ e ∷ []) (entries_of (items_view rest)) ≡ all
left-next before left rest first all e is kept answers =
    sym (behind-next before (view first) (items_view rest) e answers) ∙ sym (ap (λ (vs : List Value). behind before (entries_of (items_view vs))) is) ∙ kept

pub left-fails : (before : List MemberEntry) (left rest : List Value) (first : Value)
    (all : Result (List MemberEntry) MemberKey) (fault : MemberFault) → left ≡ first ∷ rest
    → behind before (entries_of (items_view left)) ≡ all
    → IsMemberOutcome (entry_of (view first)) (Err fault) → IsMemberOutcome all (Err fault)
left-fails before left rest first all fault is kept answers =
    subst (λ (wanted : Result (List MemberEntry) MemberKey). IsMemberOutcome wanted (Err fault))
    (sym (ap (λ (vs : List Value). behind before (entries_of (items_view vs))) is) ∙ kept)
    (behind-fails before (view first) (items_view rest) fault answers)
