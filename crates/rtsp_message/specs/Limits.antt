-- How long the parts of a message may be. RFC 2326 sets no limits: these are this reader's own.
use Rattle.std.specs.Prelude.{ℕ}

-- the most bytes that a head may have, its empty line included
abbrev pub head_limit : ℕ
head_limit = 8192

-- the most bytes that a body may have
abbrev pub body_limit : ℕ
body_limit = 65536

-- more bytes than the beginning of a message or a frame has, of which the rest is still to come
abbrev pub waiting_limit : ℕ
waiting_limit = 73728
