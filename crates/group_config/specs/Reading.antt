-- What a text of settings gives: the first of its checks that fails, in their order, or the settings.
use Rattle.std.specs.Prelude.{ℕ, ◌≡◌, ◌⊎◌, List, if◌then◌else◌, Option, Some, None, Result, Ok, Err, IsUtf8, ⊤}
use Rattle.toml.specs.Data.{Members}
use Rattle.toml.specs.Parse.{parse_document}
use Rattle.group_types.specs.Dimensions.{Dimensions}
use Rattle.group_config.specs.Keys.{k_in, m_in, block_length_in, blocks_in, address_in, workers_in, connections_in, control_in, all_known}
use Rattle.group_config.specs.declared.fault.ConfigFault.{ConfigFault}
use Rattle.group_config.specs.declared.fault.ConfigFault.TheVariants.{BadConfig, Want}
use Rattle.group_types.specs.declared.config_key.ConfigKey.{ConfigKey}
use Rattle.group_types.specs.declared.config_key.ConfigKey.TheVariants.{K, M, Block, Blocks, Address, Workers, Connections, Control, Syntax, Unknown}
use Rattle.group_config.specs.declared.settings.Settings.{Settings}

-- the text is UTF-8 and this TOML document
abbrev pub IsDocument : List ℕ → Members → Type 0
IsDocument text ms = IsUtf8 text × (parse_document text ≡ Some ms)

-- the text is no TOML document in UTF-8
abbrev pub IsNoDocument : List ℕ → Type 0
IsNoDocument text = IsUtf8 text → parse_document text ≡ None

-- a check: where it finds nothing that key is told, and else the next checks follow
abbrev pub check : {K A B : Type 0} → K → Option A → (A → Result B K) → Result B K
check key None next = Err key
check key (Some a) next = next a

-- checks behind other checks
abbrev pub follow : {K A B : Type 0} → Result A K → (A → Result B K) → Result B K
follow (Ok a) next = next a
follow (Err key) next = Err key

-- the checks of the shape, in their order
abbrev pub checked_shape : Members → Result Dimensions ConfigKey
checked_shape ms =
    check K (k_in ms) (λ k.
    check M (m_in ms) (λ m.
    check Block (block_length_in ms) (λ block.
    check Blocks (blocks_in block ms) (λ blocks.
    Ok (record { k = k; m = m; blocks = blocks; block = block })))))

-- the checks behind those of the shape
abbrev pub behind_shape : Members → Dimensions → Result Settings ConfigKey
behind_shape ms shape =
    check Address (address_in ms) (λ address.
    check Workers (workers_in ms) (λ workers.
    check Connections (connections_in ms) (λ connections.
    check Control (control_in ms) (λ control.
    if all_known ms
    then Ok (record { shape = shape; address = address; workers = workers; connections = connections; control = control })
    else Err Unknown))))

-- what a document gives: the first key whose check fails, or settings
abbrev pub settings_of : Members → Result Settings ConfigKey
settings_of ms = follow (checked_shape ms) (behind_shape ms)

-- a result is what the checks give, or there was no memory
abbrev pub IsConfigOutcome : Result Settings ConfigFault → Result Settings ConfigKey → Type 0
IsConfigOutcome result (Ok settings) = (result ≡ Ok settings) ⊎ (result ≡ Err Want)
IsConfigOutcome result (Err key) = (result ≡ Err (BadConfig key)) ⊎ (result ≡ Err Want)

-- the text gives these settings
pub record GivesSettings (text : List ℕ) (settings : Settings) : Type 0 where
  pub members : Members
  pub document : IsDocument text members
  pub are : settings_of members ≡ Ok settings

-- the first check of the text that fails is that of this key
abbrev pub RefusesAtKey : List ℕ → ConfigKey → Type 0
RefusesAtKey text key = (IsNoDocument text × (key ≡ Syntax)) ⊎ ((ms : Members) × IsDocument text ms × (settings_of ms ≡ Err key))

-- what a result says of its text
abbrev pub ComesOf : List ℕ → Result Settings ConfigFault → Type 0
ComesOf text (Ok settings) = GivesSettings text settings
ComesOf text (Err (BadConfig key)) = RefusesAtKey text key
ComesOf text (Err Want) = ⊤
