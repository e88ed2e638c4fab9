-- What is asked for an item, as memcached's text protocol has it.
use Rattle.std.specs.Prelude.{ℕ, nat_le, List, ◌++◌, length, codes, Option, Some, None, if◌then◌else◌}
use Rattle.std.specs.Fmt.{decimal}
use Rattle.memc_table.specs.Expiry.{longest_offset}
use Rattle.carry_words.specs.declared.listed.Listed.{Listed}
use Rattle.carry_words.specs.declared.stage.Stage.{Stage}
use Rattle.carry_words.specs.declared.stage.Stage.TheVariants.{Unread, Read, Stored}
use Rattle.carry_words.specs.declared.transfer.Transfer.{Transfer}

-- the exptime by which an item has this until: none, one that has passed where the number would be an offset, or the number
abbrev pub exptime_text : Option ℕ → List ℕ
exptime_text None = codes "0"
exptime_text (Some until) = if nat_le until longest_offset then codes "-1" else decimal until

abbrev pub get_request : Listed → List ℕ
get_request item = codes "get " ++ item.key ++ codes "\r\n"

-- what stands behind the key: flags, exptime and how many bytes
abbrev pub numbers_text : ℕ → List ℕ → ℕ → List ℕ
numbers_text flags exptime n = codes " " ++ (decimal flags ++ (codes " " ++ (exptime ++ (codes " " ++ (decimal n ++ codes "\r\n")))))

abbrev pub set_text : Listed → List ℕ → List ℕ
set_text item value = codes "set " ++ item.key ++ numbers_text item.flags (exptime_text item.until) (length value) ++ value ++ codes "\r\n"

-- an item is asked for, set, and asked for again
abbrev pub text_at : Listed → Stage → List ℕ
text_at item Unread = get_request item
text_at item (Read value) = set_text item value
text_at item (Stored value) = get_request item

abbrev pub transfer_text : Transfer → List ℕ
transfer_text t = text_at t.item t.stage
