-- The text of what etcd is asked, over its JSON gateway.
use Rattle.std.specs.Prelude.{ℕ, ◌++◌, List, length, codes}
use Rattle.std.specs.Fmt.{decimal}
use Rattle.base64.specs.GeneralPurpose.{encode_of}
use Rattle.base64.specs.Engines.{standard}
use Rattle.etcd_words.specs.declared.ask.Ask.{Ask}
use Rattle.etcd_words.specs.declared.ask.Ask.TheVariants.{Grant, Renew, Revoke, Register, Range, Condemn, Watch}

-- a key or a value, in base 64
abbrev pub base64_text : List ℕ → List ℕ
base64_text text = encode_of standard text

-- the keys from one to before another
abbrev pub range_text : List ℕ → List ℕ → List ℕ
range_text from to = codes "{\"key\":\"" ++ (base64_text from ++ (codes "\",\"range_end\":\"" ++ (base64_text to ++ codes "\"}")))

-- that a key holds a value, as an operation of a transaction
abbrev pub put_text : List ℕ → List ℕ → List ℕ
put_text key value = codes "{\"request_put\":{\"key\":\"" ++ (base64_text key ++ (codes "\",\"value\":\"" ++ (base64_text value ++ codes "\"}}")))

-- the same, as long as a lease lasts
abbrev pub leased_put_text : List ℕ → List ℕ → ℕ → List ℕ
leased_put_text key value lease =
    codes "{\"request_put\":{\"key\":\"" ++ (base64_text key ++ (codes "\",\"value\":\"" ++ (base64_text value ++ (codes "\",\"lease\":"
    ++ (decimal lease ++ codes "}}")))))

-- that a key changed last at a revision, and that one isn't there, as comparisons of a transaction
abbrev pub unchanged_text : List ℕ → ℕ → List ℕ
unchanged_text key revision =
    codes "{\"key\":\"" ++ (base64_text key ++ (codes "\",\"target\":\"MOD\",\"result\":\"EQUAL\",\"mod_revision\":" ++ (decimal revision ++ codes "}")))

abbrev pub absent_text : List ℕ → List ℕ
absent_text key = codes "{\"key\":\"" ++ (base64_text key ++ codes "\",\"target\":\"VERSION\",\"result\":\"EQUAL\",\"version\":0}")

-- the two transactions
abbrev pub register_text : ℕ → List ℕ → List ℕ → List ℕ → List ℕ
register_text lease alive seen value =
    codes "{\"compare\":["
    ++ (absent_text alive
    ++ (codes "],\"success\":["
    ++ (leased_put_text alive value lease ++ (codes "," ++ (put_text seen value ++ codes "]}")))))

abbrev pub condemn_text : List ℕ → ℕ → List ℕ → List ℕ → List ℕ
condemn_text dead revision value alive =
    codes "{\"compare\":["
    ++ (unchanged_text dead revision
    ++ (codes "," ++ (absent_text alive ++ (codes "],\"success\":[" ++ (put_text dead value ++ codes "]}")))))

-- what is asked, as JSON
abbrev pub body_text : Ask → List ℕ
body_text (Grant seconds) = codes "{\"TTL\":" ++ (decimal seconds ++ codes "}")
body_text (Renew lease) = codes "{\"ID\":" ++ (decimal lease ++ codes "}")
body_text (Revoke lease) = codes "{\"ID\":" ++ (decimal lease ++ codes "}")
body_text (Register lease alive seen value) = register_text lease alive.now seen.now value.now
body_text (Range from to) = range_text from.now to.now
body_text (Condemn dead revision value alive) = condemn_text dead.now revision value.now alive.now
body_text (Watch from to) = codes "{\"create_request\":" ++ (range_text from.now to.now ++ codes "}")

-- where the gateway takes it
abbrev pub path_of : Ask → List ℕ
path_of (Grant seconds) = codes "/v3/lease/grant"
path_of (Renew lease) = codes "/v3/lease/keepalive"
path_of (Revoke lease) = codes "/v3/lease/revoke"
path_of (Register lease alive seen value) = codes "/v3/kv/txn"
path_of (Range from to) = codes "/v3/kv/range"
path_of (Condemn dead revision value alive) = codes "/v3/kv/txn"
path_of (Watch from to) = codes "/v3/watch"

-- a request for a path, at a host, with a body of so many bytes
abbrev pub post_text : List ℕ → List ℕ → ℕ → List ℕ → List ℕ
post_text path host n body =
    codes "POST "
    ++ (path ++ (codes " HTTP/1.0\r\nHost: "
    ++ (host ++ (codes "\r\nContent-Type: application/json\r\nContent-Length: "
    ++ (decimal n ++ (codes "\r\n\r\n" ++ body))))))

abbrev pub request_text : List ℕ → Ask → List ℕ
request_text host ask = post_text (path_of ask) host (length (body_text ask)) (body_text ask)
