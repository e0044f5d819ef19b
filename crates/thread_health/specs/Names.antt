-- What the threads of a server are called.
use Rattle.std.specs.Prelude.{ℕ, List, ◌++◌, codes, decimal}
use Rattle.server_counts.specs.declared.thread_mark.ServerThread.{ServerThread}
use Rattle.server_counts.specs.declared.thread_mark.ServerThread.TheVariants.{Accepting, Waking, Writing, Refusing, Reporting}

-- the name of a thread
abbrev pub name_of : ServerThread → List ℕ
name_of Accepting = codes "accepting"
name_of Waking = codes "waking"
name_of (Writing number) = codes "writer " ++ decimal number
name_of Refusing = codes "refusing"
name_of Reporting = codes "reporting"

-- what is said of a thread that is late
abbrev pub late_text : ServerThread → List ℕ
late_text thread = codes "late: " ++ (name_of thread ++ codes "\n")
