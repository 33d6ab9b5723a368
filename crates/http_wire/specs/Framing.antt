-- The replies of a session over HTTP, as octets (RFC 9112, 2 to 4).
use Rattle.std.specs.Prelude.{◌≡◌, ◌⊎◌, ℕ, Bool, true, List, [], ◌∷◌, ◌++◌, length, take, codes, ◌==◌, ◌||◌, if◌then◌else◌}
use Rattle.std.specs.Fmt.{decimal}

-- a line, ended by CR LF
abbrev pub line : List ℕ → List ℕ
line text = text ++ 13 ∷ 10 ∷ []

-- the phrase of a status (RFC 9110, 15)
abbrev pub reason : ℕ → List ℕ
reason status =
    if status == 200 then codes "OK" else
    (if status == 400 then codes "Bad Request" else
    (if status == 404 then codes "Not Found" else
    (if status == 405 then codes "Method Not Allowed" else
    (if status == 411 then codes "Length Required" else
    (if status == 413 then codes "Content Too Large" else
    (if status == 415 then codes "Unsupported Media Type" else
    (if status == 503 then codes "Service Unavailable" else [])))))))

abbrev pub status_line : ℕ → List ℕ
status_line status = line (codes "HTTP/1.1 " ++ (decimal status ++ 32 ∷ reason status))

-- the field that goes with a status: the type of a PKIMessage (RFC 9811, 3), or the method that is served (RFC 9110, 15.5.6)
abbrev pub status_field : ℕ → List ℕ
status_field status =
    if status == 200 then line (codes "Content-Type: application/pkixcmp") else
    (if status == 405 then line (codes "Allow: POST") else [])

abbrev pub length_field : ℕ → List ℕ
length_field count = line (codes "Content-Length: " ++ decimal count)

-- the last reply of a session says so (RFC 9112, 9.6)
abbrev pub closing_field : Bool → List ℕ
closing_field last = if last then line (codes "Connection: close") else []

-- the reply: its status, its fields, an empty line and the body
abbrev pub framed : ℕ → List ℕ → Bool → List ℕ
framed status body last = status_line status ++ (status_field status ++ (length_field (length body) ++ (closing_field last ++ (line [] ++ body))))

-- a refusal, which has no body and ends the session
abbrev pub refusal : ℕ → List ℕ
refusal status = framed status [] true

-- what is sent where there is no reply
abbrev pub unavailable : List ℕ
unavailable = refusal 503

-- the status with which requests are refused
abbrev pub is_refusal : ℕ → Bool
is_refusal status = (status == 400) || ((status == 404) || ((status == 405) || ((status == 411) || ((status == 413) || ((status == 415) || (status == 503))))))

-- a reply of the session, or a refusal
abbrev pub IsFrameable : ℕ → List ℕ → Bool → Type 0
IsFrameable status body last = (status ≡ 200) ⊎ ((is_refusal status ≡ true) × (body ≡ []) × (last ≡ true))

-- the text begins with these octets
abbrev pub Begins : List ℕ → List ℕ → Type 0
Begins base text = take (length base) text ≡ base
