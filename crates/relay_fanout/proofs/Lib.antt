mod PlayerLists
